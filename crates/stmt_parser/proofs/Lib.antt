pub mod Items
pub mod Overlaps
pub mod Laws
