pub mod Only
pub mod Causes
pub mod Telling
pub mod Named
pub mod Types
pub mod Laws
pub mod Places
