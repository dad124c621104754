pub mod Joins
pub mod Parts
pub mod Places
