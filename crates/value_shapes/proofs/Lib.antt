mod Common
pub mod Changing
pub mod Defaults
pub mod Emptied
pub mod Entries
pub mod Known
pub mod Layers
pub mod Lists
pub mod Made
pub mod Parts
pub mod Results
pub mod Same
pub mod Stores
