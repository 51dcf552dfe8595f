pub mod Common
pub mod Answers
pub mod Changed
pub mod Emptied
pub mod Entries
pub mod Orderly
pub mod Parts
pub mod Shown
