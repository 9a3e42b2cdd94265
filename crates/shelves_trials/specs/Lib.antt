pub mod Piled
pub mod Reversed
