-- `Parts` says what a node's three parts have and where a document is, `Changes` what each call makes of them; `Uniting` is
-- for the inside of `SubDatabases::unite`.
pub mod Parts
pub mod Changes
pub mod Uniting
