pub mod Changes
pub mod Channels
pub mod Lawful
pub mod Lends
pub mod Places
