-- Lemmas of a pass: its rows and notes, the turns so far, and each kind of step.
-- Shared: other crates cite these.
pub mod Rows
pub mod Orders
-- Of this crate alone.
mod Leading
mod RowPlaces
mod Goings
mod StandsOn
mod RoundRows
mod Resending
mod Rounding
mod ForgottenNotes
mod Joining
mod Splitting
mod PlaceChanges
mod SettleFits
mod SettlingEnds
mod SettledRows
mod Settling
mod Beginning
mod Ending
mod Assembly
