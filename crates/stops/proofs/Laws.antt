pub mod Probing
pub mod Passings
