-- Shared: other crates cite these.
pub mod Quiet
pub mod Told
pub mod Leaving
pub mod Upkept
pub mod OneLine
pub mod Lists
pub mod Growing
pub mod Calling
pub mod Giving
pub mod Ordering
pub mod Answering
pub mod Steps
pub mod Wanted
-- Of this crate alone.
mod Alone
