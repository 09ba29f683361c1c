pub mod Flats
pub mod One
