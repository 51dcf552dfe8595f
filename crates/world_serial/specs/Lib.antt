pub mod Common
pub mod Fitting
pub mod Serial
pub mod Queued
