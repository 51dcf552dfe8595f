pub mod Locals
pub mod Tells
pub mod Bases
pub mod Stops
