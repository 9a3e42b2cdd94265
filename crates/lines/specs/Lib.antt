pub mod Lines
pub mod Moves
pub mod Sameness
pub mod Steps
