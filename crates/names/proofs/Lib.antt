pub mod Looked
pub mod Lengths
pub mod Need
pub mod Named
pub mod Apart
pub mod Zeros
pub mod One
