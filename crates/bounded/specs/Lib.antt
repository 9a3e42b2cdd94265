pub mod Filled
pub mod Lists
pub mod Places
pub mod Tests
