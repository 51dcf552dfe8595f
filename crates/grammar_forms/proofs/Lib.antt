mod Common
pub mod Sets
pub mod Good
pub mod First
pub mod Many
pub mod Optional
pub mod Where
pub mod Runs
pub mod Items
pub mod Joined
pub mod Longest
pub mod Turns
