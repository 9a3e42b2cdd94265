pub mod Bounds
pub mod Layers
pub mod Lists
pub mod Slots
