mod Common
pub mod Exprs
pub mod Terms
pub mod Shapes
pub mod Lawful
pub mod Rules
pub mod Limits
pub mod Checked
