pub mod AtOnce
pub mod Laws
pub mod One
pub mod Parity
