pub mod Replies
pub mod Turns
pub mod One
