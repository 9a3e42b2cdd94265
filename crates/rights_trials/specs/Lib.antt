pub mod Trails
pub mod Walking
