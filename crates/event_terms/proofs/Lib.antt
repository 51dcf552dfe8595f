pub mod Chains
pub mod Leaving
pub mod Running
pub mod Steps
pub mod Told
pub mod Waits
