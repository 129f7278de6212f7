-- A reader needs Fields, Sizes, Kinds, Faults and Fitting; Places is for proofs.
pub mod Fields
pub mod Sizes
pub mod Kinds
pub mod Faults
pub mod Fitting
pub mod Places
pub mod EntryCodes
