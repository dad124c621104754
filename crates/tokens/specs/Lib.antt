pub mod Lexing
pub mod Reach
pub mod Tokens
pub mod Words
