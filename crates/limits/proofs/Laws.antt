pub mod Constructed
pub mod Openings
