pub mod Laws
pub mod Potentials
pub mod Walks
