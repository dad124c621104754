pub mod Feeding
pub mod Growing
pub mod Keeping
pub mod Machines
pub mod Parting
pub mod Shapes
