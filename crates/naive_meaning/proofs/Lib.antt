mod Common
pub mod Carried
pub mod Sending
pub mod Parts
pub mod Ascending
pub mod Delivering
pub mod Bearing
pub mod Booting
pub mod Wording
pub mod Backing
