-- What a reader needs first: `Events` (the events as they are meant), `Readers` (what is read off a journal),
-- `Legal` (which event may come next), then `Meanings` (what a kept event means), `Places` (owner, targets,
-- openings) and `KeptJournals` (the whole relation). `Naming` and `Endings` say what an event names and what an
-- outcome says, `Facts` which messages were sent, taken and answered, `Pieces` and `RowLists` what the code
-- keeps as lists. `Sets`, `Stamps` and `Buckets` are the words below, and `Below` cuts a journal at a version.
-- `Laws` has what the law on active nodes says.
pub mod Sets
pub mod Stamps
pub mod Buckets
pub mod Events
pub mod Readers
pub mod Facts
pub mod Pieces
pub mod Legal
pub mod States
pub mod RowLists
pub mod Below
pub mod Meanings
pub mod Naming
pub mod Places
pub mod Endings
pub mod KeptJournals
pub mod ActiveCopies
