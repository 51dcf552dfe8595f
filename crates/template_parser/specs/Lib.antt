pub mod Words
pub mod Rules
pub mod Constraints
pub mod Templates
pub mod Reading
