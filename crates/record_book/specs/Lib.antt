pub mod Common
pub mod Fits
pub mod Report
