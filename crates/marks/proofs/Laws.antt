-- `Bits` tells words bit by bit, and nobody else opens `bit`; `Marking` is of the points that a word marks, and of the tables; `Sieving` of the
-- sieve.
pub mod Bits
pub mod Marking
pub mod Sieving
