mod Common
pub mod Cut
pub mod Fitting
pub mod Lined
pub mod Meanings
pub mod Names
pub mod Timing
