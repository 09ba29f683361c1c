pub mod Clock
pub mod Report
pub mod Timely
