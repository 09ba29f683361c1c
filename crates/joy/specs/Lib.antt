pub mod Joy
