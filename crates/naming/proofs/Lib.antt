pub mod Ends
pub mod Finding
pub mod Naming
pub mod Sides
