pub mod Tokens
pub mod Words
pub mod Rules
pub mod Types
pub mod Grammar
pub mod Reader
pub mod Reading
pub mod Nests
