pub mod Charging
pub mod Costing
