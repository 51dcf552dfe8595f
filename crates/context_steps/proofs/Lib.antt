mod Common
pub mod Calling
pub mod Fronts
pub mod Handled
pub mod Keeping
pub mod Rows
pub mod Runs
pub mod Stepping
