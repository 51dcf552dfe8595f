pub mod Lined
pub mod Values
pub mod Words
