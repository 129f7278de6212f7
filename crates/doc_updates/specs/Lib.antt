-- A reader needs all of these.
pub mod Effects
pub mod Updates
