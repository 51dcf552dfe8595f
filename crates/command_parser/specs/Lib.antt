pub mod Words
pub mod Rules
pub mod Commands
pub mod Reader
pub mod Reading
