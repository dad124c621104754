pub mod Affecting
pub mod Occurring
pub mod Tables
pub mod Views
