pub mod Counts
pub mod Told
pub mod Taken
pub mod Answers
pub mod Plan
pub mod Stored
