-- What a take does.
use Rattle.std.specs.Prelude.{◌≡◌, ◌<◌, ◌≤◌, ◌+◌, ◌^◌, ℕ, List, [], ◌∷◌, ◌++◌, length, Option}
use Rattle.std.specs.Prelude.{true, false}
use Rattle.disks.specs.Disks.{DiskState}
use Rattle.io_ends.specs.Causes.{HasRisen}
use Rattle.node_model.specs.Takes.{Takes}
use Rattle.message_texts.specs.Texts.{text_of}
use Rattle.messages.specs.declared.message.Message.{Message}
use Rattle.service_layer.specs.declared.replies.Taken.{Taken}
use Rattle.node_journal.specs.Files.{record_of}
use Rattle.node_journal.specs.Lives.{added}
use Rattle.node_journal.specs.Journals.{Journaled, Holds}
use Rattle.node_journal.specs.declared.faults.JournalFault.{JournalFault}
use Rattle.node_journal.specs.declared.faults.JournalFault.TheVariants as fault

-- the file up to the gate behind a record of this text would be longer than it may be
abbrev pub IsPast : List ℕ → ℕ → ℕ → Type 0
IsPast text end max = max < end + (6 + length text)

-- an open gate, a record and a closed gate, for which there is room
pub record IsFramed (text : List ℕ) (end max : ℕ) (bytes : List ℕ) : Type 0 where
  pub is : bytes ≡ 1 ∷ (record_of text ++ 0 ∷ [])
  pub short : length text < 2 ^ 32
  pub size : length bytes ≡ 6 + length text
  pub room : end + (6 + length text) ≤ max

-- why there is no record
abbrev pub IsNoRecord : List ℕ → ℕ → ℕ → JournalFault → Type 0
IsNoRecord text end max fault.Shut = ⊥
IsNoRecord text end max fault.Full = IsPast text end max
IsNoRecord text end max fault.DiskFault = ⊥
IsNoRecord text end max fault.NoMemory = Unit {0}

-- A take answered: the node took the message, and what is recorded grew by it, unless it is told that it did not.
pub record Accepts {D : Type 0} (state : D → DiskState) (old : Journaled D) (m : Message) (new : Journaled D) (t : Taken) : Type 0 where
  pub goes_on : old.shut ≡ false
  pub takes : Takes old.node m new.node t.reply
  pub room : old.node.version ≤ m.version → old.end + (6 + length (text_of m)) ≤ old.max_bytes
  pub schema : new.schema ≡ old.schema
  pub max_bytes : new.max_bytes ≡ old.max_bytes
  pub holds : (ms : List Message) → Holds state old ms → Holds state new (ms ++ added t.reply m)

-- when each refusal comes, and what it leaves
abbrev pub Refuses : {D : Type 0} → (D → DiskState) → Option ℕ → Journaled D → Message → Journaled D → JournalFault → Type 0
Refuses state last old m new fault.Shut = (old.shut ≡ true) × (new ≡ old)
Refuses state last old m new fault.Full = (old.shut ≡ false) × ((old.node.version ≤ m.version) × (IsPast (text_of m) old.end old.max_bytes × (new ≡ old)))
Refuses state last old m new fault.DiskFault = (old.shut ≡ false) × (HasRisen last (state old.disk).faults (state new.disk).faults × ((new.shut ≡ true) × (old.end + (6 + length (text_of m)) ≤ old.max_bytes)))
Refuses state last old m new fault.NoMemory = (old.shut ≡ false) × (new ≡ old)
