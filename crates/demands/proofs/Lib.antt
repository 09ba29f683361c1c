pub mod Calls
pub mod Reports
pub mod Positions
pub mod Runs
pub mod Times
pub mod Work
