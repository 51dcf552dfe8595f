pub mod Puts
pub mod Reading
pub mod Places
pub mod Completeness
