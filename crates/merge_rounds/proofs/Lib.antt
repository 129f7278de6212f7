mod Members
mod RunLaws
mod Unions
