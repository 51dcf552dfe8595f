pub mod Expressions
pub mod Checks
