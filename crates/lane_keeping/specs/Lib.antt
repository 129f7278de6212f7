-- `NodeKeeping` says what it is for a node to be what a journal says, `Flights` what is known of a message that is
-- on its way, `Replaying` what the laws of nodes say, `Unions` what the answers of a round have together, and `Spans`
-- what nodes go through while a journal grows. `LaneKeeping` says what a lane keeps: a legal journal, and nodes and
-- distributors' parts that are what it says. `Asking` says what is known while an Ask is under way and what its
-- delivery and its return leave, `Laws` what the laws say, `Acting` what the owner of a lane knows of its rows,
-- `RoundKeeping` what is known of the round that is under way, `Lines` which events are of a line.
pub mod NodeKeeping
pub mod Flights
pub mod Replaying
pub mod Unions
pub mod Spans
pub mod LaneKeeping
pub mod Asking
pub mod Laws
pub mod Acting
pub mod Shown
pub mod Tidings
pub mod RoundKeeping
pub mod Lines
