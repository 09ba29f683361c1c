pub mod Values
pub mod Every
pub mod One
