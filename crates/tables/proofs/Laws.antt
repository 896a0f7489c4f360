pub mod Holdings
pub mod Pairs
