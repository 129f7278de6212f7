-- `Feeding` says how a feeder comes from one of its lines to the next.
mod Feeding
