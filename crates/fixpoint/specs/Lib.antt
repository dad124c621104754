pub mod Growing
pub mod Least
pub mod Steps
pub mod Ways
