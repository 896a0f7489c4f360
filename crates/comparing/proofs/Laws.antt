pub mod Leadings
pub mod Orders
pub mod Writings
pub mod Orderings
pub mod Uniques
pub mod Seeing
