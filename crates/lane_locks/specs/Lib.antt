-- `Lines` speaks of the lines of a segment in a lane, `Served` of how far they are, `Turns` of what a call for one of them
-- does, and `Feeding` of what a feeder is told of it.
-- `Powers` says what marks tell of the numbers they are of, `Lanes` how a lane is before its lock is made and after it is
-- opened again, and `Runs` what a segment makes of its lanes.
pub mod Lines
pub mod Served
pub mod Turns
pub mod Slots
pub mod Feeding
pub mod Powers
pub mod Lanes
pub mod Runs
