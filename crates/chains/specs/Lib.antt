-- Read in this order.
pub mod Chains
pub mod Least
pub mod Ends
pub mod Shown
