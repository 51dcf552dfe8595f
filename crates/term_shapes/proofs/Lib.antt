mod Common
pub mod Lists
pub mod Binding
pub mod Fitting
pub mod Starting
pub mod Hearing
pub mod Forms
pub mod Stepping
