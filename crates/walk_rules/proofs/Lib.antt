mod Common
pub mod Frames
pub mod Running
pub mod Binding
pub mod Leading
pub mod Looping
pub mod Calling
pub mod Forms
pub mod StatementForms
pub mod Operating
pub mod Sending
pub mod Stating
pub mod Keeping
