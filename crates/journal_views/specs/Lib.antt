-- `JournalViews` says what a view has, read off a journal, `Fronts` what a search sees of prefixes of some lanes'
-- journals, and `Searched` what it answers of what was read.
pub mod JournalViews
pub mod Fronts
pub mod Searched
