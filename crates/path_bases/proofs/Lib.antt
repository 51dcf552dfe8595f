pub mod Reached
pub mod Lent
