pub mod Common
pub mod Contexts
pub mod Ends
pub mod Listeners
pub mod Turns
pub mod Handling
pub mod Fits
