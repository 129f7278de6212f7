-- `Views` says what a view has and what a change makes of it, `Opening` which it is at first, `Kept` what every
-- view keeps, `Shown`, `Deeds` and `Room` that it shows what nodes keep, `Serving` which nodes a search reads, and
-- `EntryOrder` in which order entries come.
pub mod Views
pub mod Opening
pub mod Kept
pub mod Shown
pub mod Deeds
pub mod Room
pub mod Serving
pub mod EntryOrder
