pub mod Tables
pub mod Theorem
