pub mod Inputs
pub mod Told
