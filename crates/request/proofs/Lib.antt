pub mod Writes
pub mod One
