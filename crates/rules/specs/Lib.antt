pub mod Names
pub mod Views
