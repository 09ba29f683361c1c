pub mod Cases
pub mod Back
pub mod One
