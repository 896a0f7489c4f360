pub mod Looking
pub mod Firsts
