pub mod Following
pub mod Scanning
