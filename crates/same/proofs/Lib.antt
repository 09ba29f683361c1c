pub mod Alike
pub mod Meaning
pub mod One
