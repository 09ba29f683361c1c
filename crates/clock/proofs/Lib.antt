pub mod Clock
pub mod Reports
pub mod One
