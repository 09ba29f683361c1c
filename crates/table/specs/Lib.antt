pub mod Places
pub mod Table
pub mod Records
