pub mod Book
pub mod Types
pub mod Asking
pub mod Sending
