mod Common
pub mod Ascending
pub mod Called
pub mod Cutting
pub mod Emptying
pub mod Following
pub mod Halving
pub mod Kept
pub mod Leaving
pub mod Left
pub mod Parted
pub mod Placing
pub mod Scalars
pub mod StillOrderly
