pub mod Scattered
pub mod Worked
