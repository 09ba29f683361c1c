pub mod Lists
pub mod Line
pub mod Calls
pub mod One
