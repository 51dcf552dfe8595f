pub mod Common
pub mod Rule
pub mod Reader
pub mod Good
