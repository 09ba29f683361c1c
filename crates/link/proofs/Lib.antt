pub mod Alone
pub mod Requests
pub mod Types
pub mod Sessions
pub mod Cuttings
