mod Common
pub mod Counting
pub mod Lending
pub mod Listening
pub mod Lists
pub mod Order
pub mod Places
pub mod Searching
pub mod Stepping
