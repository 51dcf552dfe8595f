pub mod Means
pub mod Singles
pub mod Flows
pub mod Steps
pub mod Roots
pub mod Found
