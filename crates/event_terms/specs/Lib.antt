pub mod Parts
pub mod Runs
pub mod Settings
pub mod States
