pub mod Places
pub mod Laws
pub mod Good
pub mod Keep
pub mod Old
pub mod Spots
pub mod One
