-- `TypedRows` says what a node's rows with the types of their schema are, and what changes of many rows leave; `Kept` is
-- for the inside of `NodeRows`.
pub mod TypedRows
pub mod Kept
