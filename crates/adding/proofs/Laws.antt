pub mod Costing
pub mod Filling
pub mod Firm
