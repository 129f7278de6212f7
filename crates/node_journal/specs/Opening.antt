-- How a file is read when it is opened.
use Rattle.std.specs.Prelude.{◌≡◌, ◌≢◌, ◌<◌, ◌≤◌, ◌+◌, ℕ, List, [], ◌∷◌, ◌++◌, length, take, slice_index, Option, Some, None, Result, Ok, Err, Vec}
use Rattle.std.specs.declared.alloc.Global.{Global}
use Rattle.std.specs.Prelude.{max}
use Rattle.disks.specs.Disks.{DiskState, Only, LeavesOnly}
use Rattle.io_ends.specs.Causes.{HasRisen}
use Rattle.node_journal.specs.Journals.{recorded, Records, IsAt, Journaled, Holds}
use Rattle.message_texts.specs.Texts.{message_in}
use Rattle.message_texts.specs.Fitting.{Fits}
use Rattle.doc_types.specs.SchemaCodes.{Types}
use Rattle.messages.specs.declared.message.Message.{Message}
use Rattle.node_model.specs.Nodes.{Node, new_node}
use Rattle.node_journal.specs.Files.{IsRecord, Stands}
use Rattle.node_journal.specs.Lives.{after_all}
use Rattle.node_journal.specs.declared.causes.OpenCause.{OpenCause}
use Rattle.node_journal.specs.declared.causes.OpenCause.TheVariants as cause
use Rattle.node_journal.specs.declared.records.Found.{Found}

-- what stands in the way is the disk or want of memory
abbrev pub IsFault : Option ℕ → DiskState → DiskState → OpenCause → Type 0
IsFault last old new (cause.TooLong n) = ⊥
IsFault last old new (cause.Damaged at) = ⊥
IsFault last old new cause.DiskFault = HasRisen last old.faults new.faults
IsFault last old new cause.NoMemory = Unit {0}

-- the same, or what the file reads as
abbrev pub IsCause : {M : Type 0} → Result (List M) ℕ → Option ℕ → DiskState → DiskState → OpenCause → Type 0
IsCause told last old new (cause.TooLong n) = ⊥
IsCause told last old new (cause.Damaged at) = told ≡ Err at
IsCause told last old new cause.DiskFault = HasRisen last old.faults new.faults
IsCause told last old new cause.NoMemory = Unit {0}

-- the bytes of what may be a text
abbrev pub texts : Option (Vec ℕ Global) → Option (List ℕ)
texts None = None
texts (Some v) = Some v.items

-- the next gate stands behind a record that is this message
pub record IsBehind (schema : Types) (file : List ℕ) (at : ℕ) (m : Message) (next : ℕ) : Type 0 where
  pub piece : List ℕ
  pub is : IsRecord (message_in schema) piece m
  pub fits : Fits schema m
  pub place : next ≡ at + (1 + length piece)
  pub within : next < length file
  pub front : take next file ≡ take at file ++ 1 ∷ piece

-- the gate at a place is closed, or a record stands behind it
abbrev pub FindsRecord : Types → List ℕ → ℕ → Option Found → Type 0
FindsRecord schema file at None = slice_index file at ≢ 1
FindsRecord schema file at (Some found) = IsBehind schema file at found.message found.next

-- open records of these messages stand before a gate, and the node took them
pub record IsSoFar (schema : Types) (file : List ℕ) (node : Node) (end : ℕ) : Type 0 where
  pub messages : List Message
  pub within : end < length file
  pub front : Stands (message_in schema) (take end file) messages
  pub took : node ≡ after_all messages new_node
  pub few : node.serial ≤ end
  pub none : end ≡ 0 → messages ≡ []

-- the same before a gate that is closed
pub record IsReplayed (schema : Types) (file : List ℕ) (node : Node) (end : ℕ) : Type 0 where
  pub so_far : IsSoFar schema file node end
  pub closed : slice_index file end ≢ 1

-- what is given when all was read: the file records these messages, the node took them, and all is on the disk
pub record IsRead (schema : Types) (file : List ℕ) (new : DiskState) (node : Node) (end : ℕ) : Type 0 where
  pub messages : List Message
  pub told : recorded schema file ≡ Ok messages
  pub at : IsAt schema new.seen end messages
  pub took : node ≡ after_all messages new_node
  pub few : node.serial ≤ end
  pub durable : Only new.seen new.may_leave
  pub size : length new.seen ≤ max (length file) 1

-- an opened node: it took the messages that the file records, and a crash in the call leaves a file that records them
pub record Opens {D : Type 0} (state : D → DiskState) (schema : Types) (disk : D) (limit : ℕ) (j : Journaled D) : Type 0 where
  pub under : j.schema ≡ schema
  pub within : j.max_bytes ≡ limit
  pub size : length (state disk).seen ≤ limit
  pub messages : List Message
  pub told : recorded schema (state disk).seen ≡ Ok messages
  pub holds : Holds state j messages
  pub took : j.node ≡ after_all messages new_node
  pub any_moment : Only (state disk).seen (state disk).may_leave → LeavesOnly (state disk) (state j.disk) (Records schema limit (recorded schema (state disk).seen))

-- why a disk isn't opened
abbrev pub IsWhy : {D : Type 0} → (D → DiskState) → Option ℕ → Types → D → ℕ → D → OpenCause → Type 0
IsWhy state last schema disk limit back (cause.TooLong n) = (n ≡ length (state disk).seen) × ((limit < n) × (back ≡ disk))
IsWhy state last schema disk limit back (cause.Damaged at) = (length (state disk).seen ≤ limit) × (recorded schema (state disk).seen ≡ Err at)
IsWhy state last schema disk limit back cause.DiskFault = (length (state disk).seen ≤ limit) × HasRisen last (state disk).faults (state back).faults
IsWhy state last schema disk limit back cause.NoMemory = length (state disk).seen ≤ limit

-- the disk that is handed back, and why
pub record HandsBack {D : Type 0} (state : D → DiskState) (last : Option ℕ) (schema : Types) (disk : D) (limit : ℕ) (cause : OpenCause) (back : D) : Type 0 where
  pub why : IsWhy state last schema disk limit back cause
  pub any_moment : length (state disk).seen ≤ limit → Only (state disk).seen (state disk).may_leave → LeavesOnly (state disk) (state back) (Records schema limit (recorded schema (state disk).seen))
