-- Shared: other crates cite these.
pub mod Accepting
pub mod Askings
pub mod OpeningSends
pub mod RowLists
pub mod Shortages
pub mod Staying
-- Of this crate alone.
mod AskExchanges
mod FreeRows
mod Going
mod LaneRuns
mod NodeSpans
mod Opened
mod RoundExchanges
mod RowKeys
mod Settled
mod Telling
