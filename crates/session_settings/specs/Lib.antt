-- `Choices` says which words choose a setting.
pub mod Choices
