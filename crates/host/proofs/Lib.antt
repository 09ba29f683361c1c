pub mod Numbered
pub mod Totals
pub mod One
