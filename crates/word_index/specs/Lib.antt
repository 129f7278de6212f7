pub mod Tokens
pub mod Index
pub mod Kept
