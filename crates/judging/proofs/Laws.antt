pub mod Judgings
