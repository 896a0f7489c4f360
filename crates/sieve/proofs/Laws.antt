pub mod Marks
pub mod Passes
