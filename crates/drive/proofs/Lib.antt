pub mod Reports
pub mod One
