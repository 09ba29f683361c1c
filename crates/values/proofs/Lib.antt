pub mod Values
pub mod One
