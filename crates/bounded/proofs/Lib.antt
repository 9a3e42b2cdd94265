pub mod Bools
pub mod Guards
pub mod Loops
pub mod Packing
