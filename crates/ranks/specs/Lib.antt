pub mod Answers
pub mod Edges
pub mod Relaxing
pub mod Tables
