-- `Cells` says what a cluster and a session are to their callers, `Asking` what lines ask, `Lanes` which lane a document belongs to, `Deeds`
-- which deeds lines are in each lane, `Steps` what one line makes of the cluster, `Output` the bytes that answer it, `Keeping`
-- what a session keeps, `Noted` what is noted of lines, `Spans` how upkeep went, `Searches` how far searches read and
-- what they find, and `Rows` and `Sizes` what is shown of rows and stores.
pub mod Cells
pub mod Lanes
pub mod Asking
pub mod Deeds
pub mod Noted
pub mod Spans
pub mod Searches
pub mod Output
pub mod Sizes
pub mod Rows
pub mod Keeping
pub mod Steps
