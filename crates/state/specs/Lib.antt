pub mod State
pub mod Refused
pub mod Parts
pub mod Sound
pub mod Call
pub mod Returned
