pub mod Numbers
pub mod Stores
pub mod Laid
pub mod Runs
pub mod One
pub mod Made
