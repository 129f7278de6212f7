-- `Hits` says which documents a query finds; `Merging` what two rising lists have together, in common, and apart; `Ranges`,
-- `Bounds` and `Marks` are for numbers of documents that pass a test.
pub mod Merging
pub mod Hits
pub mod Ranges
pub mod Bounds
pub mod Marks
