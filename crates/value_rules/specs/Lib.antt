pub mod Common
pub mod Costs
pub mod Defaults
pub mod Shapes
pub mod Texts
