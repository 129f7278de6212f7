-- What a journaled node is, and what a crash may leave of it.
use Rattle.std.specs.Prelude.{◌≡◌, ◌≢◌, ◌⊎◌, ◌<◌, ◌≤◌, ◌^◌, ℕ, suc, List, [], ◌∷◌, length, take, drop, slice_index, Bool, false, Some, Result, refl}
use Rattle.std.specs.Coded.{Coded, code_by, coded×, coded_ℕ, coded_bool}
use Rattle.disks.specs.Disks.{DiskState, Only}
use Rattle.node_model.specs.Nodes.{Node, node_code}
use Rattle.message_texts.specs.Texts.{message_in, IsTextOf}
use Rattle.doc_types.specs.SchemaCodes.{Types, types_code}
use Rattle.messages.specs.declared.message.Message.{Message}
use Rattle.node_journal.specs.Files.{text_in, journal_in, with_last, Stands}
use Rattle.node_journal.specs.Lives.{IsLive}

-- The messages that a file records, or the place of the open gate that has no whole record or no message.
abbrev pub recorded : Types → List ℕ → Result (List Message) ℕ
recorded schema file = journal_in (message_in schema) file

-- a file within the limit that records this
pub record Records (schema : Types) (max : ℕ) (told : Result (List Message) ℕ) (file : List ℕ) : Type 0 where
  pub size : length file ≤ max
  pub messages : recorded schema file ≡ told

-- a file within the limit that records the same messages, or one more
abbrev pub RecordsOrAlso : Types → ℕ → Result (List Message) ℕ → Message → List ℕ → Type 0
RecordsOrAlso schema max told m file = Records schema max told file ⊎ Records schema max (with_last told (m ∷ [])) file

-- the gate at a place is open, and behind it stands no whole record of a message that the schema allows
pub record IsDamaged (schema : Types) (file : List ℕ) (at : ℕ) : Type 0 where
  pub within : at < length file
  pub gate : slice_index file at ≡ 1
  pub nothing : (text : List ℕ) (m : Message) → text_in (drop (suc at) file) ≡ Some text → IsTextOf schema m text → ⊥

-- before the gate at `end`, which is closed, stand open records of these messages
pub record IsAt (schema : Types) (file : List ℕ) (end : ℕ) (ms : List Message) : Type 0 where
  pub within : end < length file
  pub front : Stands (message_in schema) (take end file) ms
  pub closed : slice_index file end ≢ 1
  pub short : length file < 6 → ms ≡ []

-- a node in one lane, its disk, the schema and the limit under which its file was opened, the place of the gate
-- behind its records, and whether the disk failed in an earlier take
pub record Journaled (D : Type 0) : Type 0 where
  pub node : Node
  pub disk : D
  pub schema : Types
  pub max_bytes : ℕ
  pub end : ℕ
  pub shut : Bool

abbrev pub journaled_code : {D : Type 0} → Coded D → Coded (Journaled D)
journaled_code {D} d = code_by (Node × (D × (Types × (ℕ × (ℕ × Bool))))) (coded× node_code (coded× d (coded× types_code (coded× coded_ℕ (coded× coded_ℕ coded_bool)))))
    (λ j. (j.node, (j.disk, (j.schema, (j.max_bytes, (j.end, j.shut))))))
    (λ p. record { node = p.0; disk = p.1.0; schema = p.1.1.0; max_bytes = p.1.1.1.0; end = p.1.1.1.1.0; shut = p.1.1.1.1.1 }) (λ _. refl)

-- The node took these messages from the start, and every crash leaves a file that records them.
pub record Holds {D : Type 0} (state : D → DiskState) (j : Journaled D) (ms : List Message) : Type 0 where
  pub goes_on : j.shut ≡ false
  pub size : length (state j.disk).seen ≤ j.max_bytes
  pub at : IsAt j.schema (state j.disk).seen j.end ms
  pub live : IsLive ms j.node
  pub few : j.node.serial ≤ j.end
  pub durable : Only (state j.disk).seen (state j.disk).may_leave

-- what holds of every journaled node
pub record IsJournal {D : Type 0} (state : D → DiskState) (j : Journaled D) : Type 0 where
  pub least : 6 ≤ j.max_bytes
  pub most : j.max_bytes < 2 ^ 32
  pub holds : j.shut ≡ false → (ms : List Message) × Holds state j ms
