pub mod Asking
pub mod Drafts
pub mod Machine
pub mod Patterns
pub mod Tables
