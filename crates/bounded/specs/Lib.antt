pub mod Bounded
