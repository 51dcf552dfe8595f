pub mod Common
pub mod Entries
pub mod Forms
pub mod Readable
pub mod Reading
pub mod Spelling
