pub mod Then
pub mod Through
pub mod Codes
pub mod Digits
