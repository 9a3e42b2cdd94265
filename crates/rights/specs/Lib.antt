pub mod Classes
pub mod Meaning
pub mod Modes
pub mod Paths
pub mod Patterns
pub mod Subjects
