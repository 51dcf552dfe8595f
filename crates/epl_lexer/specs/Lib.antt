pub mod Bytes
pub mod Classes
pub mod Spelling
pub mod Reading
pub mod Tokens
