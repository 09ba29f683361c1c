pub mod Codec
pub mod One
