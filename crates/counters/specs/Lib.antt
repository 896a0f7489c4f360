-- Read in this order: it goes as document 01's paragraph 'packed' goes.
pub mod Width
pub mod Word
pub mod Sums
pub mod Words
pub mod Masking
pub mod Sound
