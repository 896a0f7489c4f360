-- Read in this order: it goes as document 01's paragraph 'packed' goes. What a reading adds stands in `adding`.
pub mod Separate
pub mod Following
