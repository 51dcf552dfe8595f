pub mod Bools
pub mod Fitted
pub mod Forms
pub mod Idling
pub mod Keeping
pub mod Still
