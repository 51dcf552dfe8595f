pub mod Going
pub mod Forms
pub mod Digits
pub mod Lasts
