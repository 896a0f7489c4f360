pub mod Reports
pub mod Lengths
