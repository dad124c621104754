pub mod Ranking
pub mod Relaxing
pub mod Shortening
pub mod Shortness
pub mod Specials
pub mod Transfer
pub mod Walking
