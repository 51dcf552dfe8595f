pub mod Placed
pub mod Singly
pub mod Orders
pub mod Telling
pub mod Turns
