pub mod Common
pub mod Actors
pub mod Records
pub mod Faithful
