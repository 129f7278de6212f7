-- `Entries` says what a map of entries has, `EntryCodes` that it is data, and `Joins` what the join of two maps is; a
-- reader needs no more. How slots lie in it says `Slots`, and `Merging` and `Runs` what a merge and a bucket take of them.
-- `Stamps` has the stamps of its entries in rising order, and `Kept` the entries of a map that may have one alone.
pub mod Entries
pub mod EntryCodes
pub mod Joins
pub mod Slots
pub mod Merging
pub mod Runs
pub mod Stamps
pub mod Kept
