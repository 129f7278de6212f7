-- Shared: other crates cite these.
pub mod Fates
pub mod Dues
pub mod Dealings
pub mod Carried
pub mod Messages
pub mod Waitings
pub mod GivenOut
pub mod Staying
