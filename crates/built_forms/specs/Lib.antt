pub mod Rows
pub mod Expressions
pub mod Events
pub mod Statements
pub mod Units
