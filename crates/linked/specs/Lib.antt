pub mod Board
pub mod Host
