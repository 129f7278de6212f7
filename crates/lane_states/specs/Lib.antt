-- `Told` says what a lane keeps of the changes of its view, `LaneStates` has the fields of a lane, and `Growing` what becomes
-- of a message and what distributors hear. `Tellings` says what came back of a message of a row, `Written` where written
-- entries stand, `KnownOwners` who owns a lane, `Accepting` which rows their active nodes accepted, `FreeRows` in which rows
-- a round may be run, and `Shortages` which messages found a node that wants memory.
pub mod Told
pub mod LaneStates
pub mod Growing
pub mod Written
pub mod Tellings
pub mod Exchanging
pub mod KnownOwners
pub mod Accepting
pub mod FreeRows
pub mod Shortages
