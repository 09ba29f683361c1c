pub mod Unit
pub mod Protocol
pub mod Kept
pub mod Cases
pub mod Touched
