pub mod Walk
pub mod Walking
