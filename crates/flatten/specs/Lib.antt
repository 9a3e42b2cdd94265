pub mod Jobs
pub mod Joined
