pub mod Means
pub mod CallsBy
pub mod Walked
pub mod Leaving
