pub mod LeadingSteps
pub mod Parts
