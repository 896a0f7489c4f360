pub mod Costs
pub mod Tables
