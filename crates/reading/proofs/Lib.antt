pub mod Completing
pub mod Digits
pub mod Ordering
pub mod Scanning
pub mod Valuing
