pub mod Sections
pub mod One
