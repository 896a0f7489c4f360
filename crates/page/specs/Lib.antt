pub mod Put
pub mod Puts
