pub mod Ways
pub mod Answers
pub mod One
