-- `Codes` says that entries are data, `Slots` what a slot holds and `Order` how slots are ordered; `Chunks` says what
-- rows of slots are as one list, and where a place in it is.
pub mod Slots
pub mod Order
pub mod Chunks
