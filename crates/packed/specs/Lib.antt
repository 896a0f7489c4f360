-- How the counters are stepped and what they tell stands in `scan`.
pub mod Needs
