pub mod Counts
pub mod Lent
pub mod Order
pub mod Places
pub mod Steps
