pub mod Padded
pub mod Held
pub mod Boards
pub mod Refused
pub mod One
