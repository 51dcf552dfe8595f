mod Common
pub mod Defaulted
pub mod Escapes
pub mod Having
pub mod Shaped
