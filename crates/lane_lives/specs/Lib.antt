-- `Lives` says what the life of a lane is, `Serving` how its bucket and rules come from the setting, `Upkeep` how upkeep
-- went, and `Rested` what it leaves for searches.
pub mod Lives
pub mod Upkeep
pub mod Serving
pub mod Settings
pub mod Rested
