pub mod Asking
pub mod Questions
