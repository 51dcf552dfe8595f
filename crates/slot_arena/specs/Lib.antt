pub mod Arena
pub mod Course
pub mod Lends
