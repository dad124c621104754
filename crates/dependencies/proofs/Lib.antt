pub mod Deriving
pub mod Finding
pub mod Listing
pub mod Looking
pub mod Passing
pub mod Raising
pub mod Singling
