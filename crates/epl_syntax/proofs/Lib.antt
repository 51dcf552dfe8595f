pub mod Faults
pub mod Tells
pub mod Trees
