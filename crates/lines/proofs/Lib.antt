pub mod Handing
pub mod Unique
