pub mod Beginning
pub mod Growing
pub mod Items
pub mod Rounds
pub mod Only
pub mod Back
pub mod Placing
