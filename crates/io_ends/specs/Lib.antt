-- What a caller needs: `Causes` (faults), `Lines` (the lines of a text), `Reading` (what a reader of lines
-- is and says) and `Memory` (ends in memory). The others serve the code alone.
pub mod Causes
pub mod Lines
pub mod Reading
pub mod Memory
pub mod Ahead
pub mod Fetching
pub mod Filling
pub mod ReaderState
