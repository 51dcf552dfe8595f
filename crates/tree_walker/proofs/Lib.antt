pub mod Coming
pub mod Acting
pub mod Shapes
