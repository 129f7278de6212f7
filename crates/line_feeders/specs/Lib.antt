-- `Waiting` says which lines wait at a lock, `Calls` what is called for a line and what it becomes by that, and `Errands` what
-- becomes of a feeder.
pub mod Waiting
pub mod Calls
pub mod Errands
