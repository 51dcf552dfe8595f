pub mod Arms
pub mod Calling
pub mod Checking
pub mod Ending
pub mod Going
pub mod Members
pub mod Naming
