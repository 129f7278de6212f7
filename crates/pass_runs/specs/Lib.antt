-- `Worlds` has what the abstract sees of a pass, `Steps` what a step leaves, and `Standing` what holds between steps.
pub mod Worlds
pub mod Steps
pub mod Standing
