-- Shared: other crates cite these.
pub mod Answered
pub mod Before
-- Of this crate alone.
mod Newest
mod CarriedBefore
mod Later
mod Completing
mod CompletingBeside
mod Complete
mod Ends
mod Refusals
mod Shortfalls
mod ShortfallsBeside
mod Hearing
mod Covered
mod Order
