pub mod Askings
pub mod Replies
