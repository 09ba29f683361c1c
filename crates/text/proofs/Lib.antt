pub mod Texts
pub mod One
