pub mod Checking
pub mod Reaching
pub mod Steps
pub mod Unique
