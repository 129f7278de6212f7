-- `Rows` says how a node's documents stand by local id and what a change makes of them, `Kinds` compares kinds of
-- fields, `Reading` says what searches read of them.
pub mod Kinds
pub mod Rows
pub mod Reading
