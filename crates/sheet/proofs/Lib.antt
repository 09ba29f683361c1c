pub mod Table
pub mod Laws
pub mod Codec
pub mod Sections
pub mod Runs
