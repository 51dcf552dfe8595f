pub mod Turns
pub mod UnitLaws
pub mod Whole
pub mod Cutting
