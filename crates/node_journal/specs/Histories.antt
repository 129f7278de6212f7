-- Whole histories: lives of a node on a disk, each ended by a crash at any moment.
use Rattle.std.specs.Prelude.{◌≡◌, ◌⊎◌, ℕ, List, [], ◌∷◌, ◌++◌, Option, Result, Ok, Err, IfOk, IfErr, if◌then◌else◌}
use Rattle.disks.specs.Disks.{DiskState, Only, LeavesOnly}
use Rattle.doc_types.specs.SchemaCodes.{Types}
use Rattle.messages.specs.declared.message.Message.{Message}
use Rattle.service_layer.specs.declared.replies.Taken.{Taken}
use Rattle.node_journal.specs.declared.causes.OpenCause.{OpenCause}
use Rattle.node_journal.specs.declared.faults.JournalFault.{JournalFault}
use Rattle.node_journal.specs.declared.faults.JournalFault.TheVariants as fault
use Rattle.node_journal.specs.Lives.{is_recorded}
use Rattle.node_journal.specs.Journals.{Records, RecordsOrAlso, Journaled, Holds}
use Rattle.node_journal.specs.Opening.{Opens, HandsBack}
use Rattle.node_journal.specs.Taking.{Accepts, Refuses}

-- a take told that its message is recorded, or it was under way at a crash or met a fault of the disk
pub data Mark : Type 0 where
  Told : Message → Mark
  Perhaps : Message → Mark

-- all messages of which a take told that they are recorded, in order, and of the others some; the newest mark first
abbrev pub Chosen : List Mark → List Message → Type 0
Chosen [] ms = ms ≡ []
Chosen (Told m ∷ marks) ms = (before : List Message) × (Chosen marks before × (ms ≡ before ++ m ∷ []))
Chosen (Perhaps m ∷ marks) ms = Chosen marks ms ⊎ ((before : List Message) × (Chosen marks before × (ms ≡ before ++ m ∷ [])))

-- what a take's answer adds
abbrev pub marked : Result Taken JournalFault → Message → List Mark → List Mark
marked (Ok t) m marks = if is_recorded t.reply then Told m ∷ marks else marks
marked (Err fault.Shut) m marks = marks
marked (Err fault.Full) m marks = marks
marked (Err fault.DiskFault) m marks = Perhaps m ∷ marks
marked (Err fault.NoMemory) m marks = marks

-- a call of `take`, by its contract
pub record IsTake {D : Type 0} (state : D → DiskState) (last : Option ℕ) (old : Journaled D) (m : Message) (result : Result Taken JournalFault) (new : Journaled D) : Type 0 where
  pub taken : IfOk result (Accepts state old m new)
  pub refused : IfErr result (Refuses state last old m new)
  pub any_moment : (ms : List Message) → Holds state old ms → LeavesOnly (state old.disk) (state new.disk) (RecordsOrAlso old.schema old.max_bytes (Ok ms) m)

-- a disk with a file, all of it on the disk
pub record HasFile {D : Type 0} (state : D → DiskState) (disk : D) (file : List ℕ) : Type 0 where
  pub seen : (state disk).seen ≡ file
  pub settled : Only (state disk).seen (state disk).may_leave

-- a node that runs, or the file that a crash left
pub data Phase (D : Type 0) : Type 0 where
  Runs : Journaled D → Phase D
  Crashed : List ℕ → Phase D

-- What may have happened: from a file that records nothing on, a file is opened, or that fails; messages are
-- taken; and a crash comes between two calls or in one, at any moment.
pub data History {D : Type 0} (state : D → DiskState) (last : Option ℕ) (schema : Types) (limit : ℕ) : List Mark → Phase D → Type 0 where
  Begins : (file : List ℕ) → Records schema limit (Ok []) file → History state last schema limit [] (Crashed file)
  IsOpened : (marks : List Mark) (file : List ℕ) (disk : D) (j : Journaled D) → History state last schema limit marks (Crashed file) → HasFile state disk file → Opens state schema disk limit j
      → History state last schema limit marks (Runs j)
  CrashesAsItOpens : (marks : List Mark) (file : List ℕ) (disk : D) (j : Journaled D) (left : List ℕ) → History state last schema limit marks (Crashed file) → HasFile state disk file → Opens state schema disk limit j
      → (state j.disk).left_since (state disk).moment left → History state last schema limit marks (Crashed left)
  IsNotOpened : (marks : List Mark) (file : List ℕ) (disk : D) (cause : OpenCause) (back : D) (left : List ℕ) → History state last schema limit marks (Crashed file) → HasFile state disk file → HandsBack state last schema disk limit cause back
      → (state back).left_since (state disk).moment left → History state last schema limit marks (Crashed left)
  Takes : (marks : List Mark) (old : Journaled D) (m : Message) (result : Result Taken JournalFault) (new : Journaled D) → History state last schema limit marks (Runs old) → IsTake state last old m result new
      → History state last schema limit (marked result m marks) (Runs new)
  CrashesBetween : (marks : List Mark) (j : Journaled D) (left : List ℕ) → History state last schema limit marks (Runs j) → (state j.disk).may_leave left → History state last schema limit marks (Crashed left)
  CrashesInTake : (marks : List Mark) (old : Journaled D) (m : Message) (result : Result Taken JournalFault) (new : Journaled D) (left : List ℕ) → History state last schema limit marks (Runs old) → IsTake state last old m result new
      → (state new.disk).left_since (state old.disk).moment left → History state last schema limit (Perhaps m ∷ marks) (Crashed left)

-- a file that records all messages told of, and of the others some
abbrev pub Recalls : Types → ℕ → List Mark → List ℕ → Type 0
Recalls schema limit marks file = (ms : List Message) × (Chosen marks ms × Records schema limit (Ok ms) file)
