pub mod Walks
pub mod Searching
