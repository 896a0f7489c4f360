pub mod Arounds
