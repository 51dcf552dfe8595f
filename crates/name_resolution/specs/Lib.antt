pub mod Names
pub mod Types
pub mod Expressions
pub mod Events
pub mod Statements
pub mod Units
pub mod Resolves
