pub mod Common
pub mod Bodies
pub mod Kept
