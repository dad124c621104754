pub mod Behind
pub mod Edges
pub mod Relaxed
pub mod Rounds
pub mod Sources
