pub mod Fuels
