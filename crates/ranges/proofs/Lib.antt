pub mod Tests
pub mod Flags
pub mod One
