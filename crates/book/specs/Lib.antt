pub mod Asking
pub mod Book
pub mod Books
pub mod Changing
pub mod Law
pub mod Learning
pub mod Views
