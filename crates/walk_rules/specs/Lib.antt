pub mod Ran
pub mod Parts
pub mod Contexts
