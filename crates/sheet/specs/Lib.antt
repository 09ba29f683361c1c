pub mod Names
pub mod Sheet
pub mod Rows
pub mod Lengths
pub mod Sections
