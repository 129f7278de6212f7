-- `Works` and `LaneInside` say what a lane keeps behind its value. `Preparations` says
-- what prepares an operation in its row, `Phases` what it does then, and `Searching` is the search for its row. `Upkeeping` says
-- what an upkeep makes of its work, `Undisturbed` when one rests, and `Passes` in which order it goes.
-- `Runs` says what the calls say of one operation, `Shelved` what a lane is with its shelf, and `Showing` what it shows to
-- searches, and of its rows.
pub mod Works
pub mod LaneInside
pub mod Phases
pub mod Preparations
pub mod Searching
pub mod Upkeeping
pub mod Undisturbed
pub mod Passes
pub mod Advancing
pub mod Runs
pub mod Shelved
pub mod Showing
