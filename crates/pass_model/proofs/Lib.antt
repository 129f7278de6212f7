-- Shared: other crates cite these.
pub mod Geometry
pub mod Stamps
pub mod Aligning
pub mod Settling
pub mod Lists
pub mod Sweeping
pub mod SplitSweeps
pub mod JoinSweeps
pub mod Lanes
pub mod Counting
pub mod Shapes
pub mod ShownCounts
pub mod Targets
pub mod Once
pub mod RowLists
pub mod JoinTurns
pub mod Resending
pub mod Framing
-- Of this crate alone.
mod Rounded
mod Tests
mod Parts
mod Splits
mod Joins
mod Inserts
mod Frames
mod Effects
mod Doubling
mod Unions
mod Rows
mod Deletes
mod Each
mod Pairs
mod Halves
mod Resting
mod Beginning
mod Existing
mod Shown
mod Reading
mod Loops
mod Found
mod Named
mod Numbers
mod Walking
mod RoundedRows
mod SettledPlaces
mod OrderedRows
mod Reached
mod Standings
mod SettleTurns
mod SplitTurns
mod Turning
mod Ending
