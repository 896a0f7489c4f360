-- Read in this order: it goes as document 01 goes.
pub mod Reading
pub mod Rule
pub mod Place
pub mod Listing
pub mod Sums
pub mod Walk
pub mod Chain
pub mod Refusal
pub mod Refused
pub mod Verdict
pub mod Spans
pub mod Answer
pub mod Trying
