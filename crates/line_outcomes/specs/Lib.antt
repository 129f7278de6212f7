-- `Shortages` says what it is that too few nodes answered, and `Outcomes` with which outcome an operation ends.
pub mod Shortages
pub mod Outcomes
