pub mod Calls
pub mod Reports
pub mod Runs
pub mod Work
pub mod Times
