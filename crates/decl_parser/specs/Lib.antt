pub mod Units
pub mod Pieces
pub mod Declaring
