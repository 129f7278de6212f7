-- Shared: other crates cite these.
pub mod Ids
pub mod Order
pub mod Counts
pub mod BucketLaws
pub mod Basics
pub mod Beginnings
pub mod Rows
pub mod Serials
pub mod RowLists
pub mod Parted
pub mod Pieces
pub mod States
pub mod Meant
pub mod Spent
pub mod Deletes
pub mod Marks
pub mod Losses
pub mod Kept
pub mod Versions
pub mod Regions
pub mod Replies
pub mod Hearing
-- Of this crate alone.
mod Published
mod SerialsAgain
