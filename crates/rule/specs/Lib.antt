pub mod Run
pub mod Framing
pub mod Rule
pub mod Step
pub mod Calls
pub mod Ready
pub mod Facts
pub mod TrueTime
