pub mod Counts
pub mod Scenes
pub mod Replies
pub mod Told
pub mod Lawful
