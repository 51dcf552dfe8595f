pub mod Inputs
pub mod Causes
pub mod Promise
pub mod Completing
pub mod Steps
