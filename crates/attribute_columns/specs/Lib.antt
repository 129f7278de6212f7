pub mod Columns
pub mod Dictionary
