pub mod Actions
pub mod Bodies
pub mod Captures
pub mod Endings
pub mod Members
pub mod Programs
pub mod Statements
pub mod Steps
