pub mod Changing
pub mod Halves
pub mod Leading
pub mod Placing
