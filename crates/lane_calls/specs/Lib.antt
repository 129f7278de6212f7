-- `LaneValues` says what a lane is, and what each of its calls makes of it, `Lines` what a line makes of its journal alone, `Upkept`
-- what an upkeep does, and `Readings` what is read off a journal. `Segments` says which calls a lane takes while feeders run lines
-- there, `Courses` what one of the lines did, `Growth` how the lane's journal grows by all of them, event by event, and `LineEvents`
-- which events begin and answer a line.
pub mod LaneValues
pub mod Lines
pub mod Upkept
pub mod Readings
pub mod Segments
pub mod Courses
pub mod Growth
pub mod LineEvents
