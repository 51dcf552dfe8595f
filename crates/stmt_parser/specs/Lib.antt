pub mod Events
pub mod Statements
pub mod Reading
pub mod Nests
