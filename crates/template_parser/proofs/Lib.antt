pub mod Continued
pub mod Unless
pub mod ConstraintLaws
pub mod TemplateLaws
