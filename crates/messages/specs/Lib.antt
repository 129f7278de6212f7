-- What a reader needs first: `Meaning` (what an operation does with its document) and `Noting` (how a journal names
-- what a message carries).
-- `Waiting` says what waits and what each call does with it; `Kept` how it lies.
pub mod Meaning
pub mod Noting
pub mod Waiting
pub mod Kept
