-- `Words` says which words a value has and which documents have them, `Fields` what all fields together are; `Kept`
-- is for the inside of `FieldIndex`.
pub mod Words
pub mod Kept
pub mod Fields
pub mod Told
