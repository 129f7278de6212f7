-- Shared: other crates cite these.
pub mod Carrying
pub mod ClosedParts
pub mod Entries
-- Of this crate alone.
mod Wanted
mod Ending
mod EntryFree
mod FilledRows
mod MessageKeys
mod OpenedLines
mod OpeningAsks
mod OpeningEnds
mod OpeningRuns
mod RoundLines
mod RowRounds
mod RowsFound
mod RunningSteps
mod Standing
