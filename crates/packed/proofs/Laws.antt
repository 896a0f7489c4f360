pub mod Serving
pub mod Answering
