pub mod Codec
pub mod Placed
pub mod One
