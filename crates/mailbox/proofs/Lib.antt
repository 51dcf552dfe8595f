pub mod Leaving
pub mod PassLists
pub mod Steps
