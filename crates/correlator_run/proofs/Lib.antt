pub mod Completing
pub mod Faults
pub mod Loading
pub mod Texts
pub mod Wording
