-- Lemmas of the machine: how many keep a row, and what the owner's part says of the nodes of a row.
-- Shared: other crates cite these.
pub mod Keepers
pub mod Ideals
pub mod Siblings
pub mod SettleTurns
pub mod Allowing
pub mod AllTurns
pub mod PlaceTurns
pub mod Pending
pub mod Levels
pub mod Pairs
pub mod WholeLists
pub mod ResentActivates
-- Of this crate alone.
mod NodesOfRows
mod Overs
mod Points
mod Rising
mod Numbers
mod Nearer
mod Lists
mod Silent
