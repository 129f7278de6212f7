-- `Promises` says what holds of each life of a lane, `Hearings` who hears which state.
pub mod Promises
pub mod Hearings
