pub mod Drafts
pub mod Tables
