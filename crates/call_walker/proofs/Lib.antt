pub mod Locals
pub mod Statements
pub mod Initials
pub mod Begun
