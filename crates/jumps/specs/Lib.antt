-- Read in this order: it goes as document 01's section on the jump rules goes.
pub mod Least
pub mod Jumps
pub mod Demand
