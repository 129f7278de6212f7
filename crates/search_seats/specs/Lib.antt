-- What a search reads of seats, and what seats keep.
pub mod Searches
