-- For a reader: Lines, Operations, Upkeep, Orders, Searches, FullSearches, Ends, Limits and Programs, and FedLines and FedEnds of sessions
-- that feeders run. The others serve the calls below the top ones.
pub mod StatusNumbers
pub mod Limits
pub mod Counting
pub mod Operations
pub mod Upkeep
pub mod Orders
pub mod Searches
pub mod FullSearches
pub mod Causes
pub mod Hearing
pub mod LanePromises
pub mod Ends
pub mod Lines
pub mod Programs
pub mod Answering
pub mod Reads
pub mod Dealing
pub mod SoFar
pub mod SegmentReads
pub mod Reporting
pub mod FedEnds
pub mod FedLines
pub mod FedDealing
pub mod FedAnswering
