-- What is known where a step comes: of which row it is, and what allows a decision on it.
use Rattle.std.specs.Prelude.{◌≡◌, ◌<◌, ℕ, true, false, Some, None, slice_get}
use Rattle.std.specs.BTreeMap.{BTreeMap}
use Rattle.bucket_ids.specs.Buckets.{Low, parent_of}
use Rattle.cluster_states.specs.Publishing.{serves}
use Rattle.messages.specs.declared.body.Body.{Body}
use Rattle.messages.specs.declared.body.Body.TheVariants as body
use Rattle.messages.specs.declared.decision.Decision.{Decision}
use Rattle.messages.specs.declared.decision.Decision.TheVariants.{RowSplit, RowsJoined, ActiveOn, DeleteFrom, DeleteOver}
use Rattle.bucket_db.specs.declared.row.Row.{Row}
use Rattle.bucket_db.specs.declared.row.Deleting.{Deleting as Delete}
use Rattle.pass_machine.specs.declared.doing.Settle.TheVariants as settle
use Rattle.pass_machine.specs.declared.doing.Doing.{Doing}
use Rattle.pass_machine.specs.declared.doing.Doing.TheVariants.{ResentDelete, ResentActivate, JoinTold, SplitTold, Settling}
use Rattle.pass_machine.specs.declared.doing.UpkeepStep.{UpkeepStep}
use Rattle.pass_machine.specs.declared.doing.UpkeepStep.TheVariants as step
use Rattle.pass_machine.specs.declared.doing.Turn.{Turn}
use Rattle.pass_machine.specs.declared.doing.Turn.TheVariants.{Over, Says}
use Rattle.pass_machine.specs.declared.notes.RowNote.{RowNote}
use Rattle.pass_machine.specs.Notes.{note_for, whole_in}
use Rattle.pass_machine.specs.Places.{can_join, are_small}
use Rattle.pass_machine.specs.Settling.{serial_among, are_enough}
use Rattle.pass_machine.specs.Turns.{View, to_be_active, is_target}

-- ---- what was answered before

-- the node that is to be active answered Ready
abbrev pub IsReady : Doing → Type 0
IsReady (Settling t at (settle.Deciding ready)) = ready ≡ true
IsReady _ = ⊥

-- the active node answered Activate
abbrev pub IsAnswered : Doing → Type 0
IsAnswered (Settling t at (settle.Accepting answered)) = answered ≡ true
IsAnswered (ResentActivate at answered) = answered ≡ true
IsAnswered _ = ⊥

-- a reply ended the Delete
abbrev pub IsEnded : Doing → Type 0
IsEnded (Settling t at (settle.DeleteOver n)) = Unit {0}
IsEnded (ResentDelete at) = Unit {0}
IsEnded _ = ⊥

-- ---- decisions

-- a row of fewer than 58 bits is split
pub record IsSplitOf (row : Row) (b : Low) : Type 0 where
  pub bucket : b ≡ row.bucket
  pub fewer : row.bucket.bits < 58

-- a row may be joined with its sibling, and both are small
pub record IsJoinOf (v : View) (notes : BTreeMap ℕ RowNote) (row : Row) (p : Low) : Type 0 where
  pub parent : p ≡ parent_of row.bucket
  pub some : 1 < row.bucket.bits
  pub can : can_join v.lane v.rows row ≡ true
  pub small : are_small notes row.bucket (v.rules).split_at ≡ true

-- no node is active yet, and the one that is to be answered Ready
pub record IsActivation (v : View) (row : Row) (d : Doing) (b : Low) (n : ℕ) : Type 0 where
  pub bucket : b ≡ row.bucket
  pub undecided : row.active ≡ None
  pub to_be_active : to_be_active v row ≡ Some n
  pub ready : IsReady d

-- the row has no unanswered Delete, the node is no target and showed just the row with this serial in its last round,
-- and enough others keep its copy
pub record IsDeletion (v : View) (notes : BTreeMap ℕ RowNote) (row : Row) (b : Low) (n serial : ℕ) : Type 0 where
  pub bucket : b ≡ row.bucket
  pub small : n < 32
  pub none : row.deleting ≡ None
  pub no_target : is_target v row n ≡ false
  pub note : RowNote
  pub noted : whole_in (note_for row.bucket notes) ≡ Some note
  pub shown : serial_among note.exact.items n ≡ Some serial
  pub enough : are_enough (v.rules).acks row note n ≡ true

-- the row has this Delete, and a reply ended it
pub record IsEnd (row : Row) (d : Doing) (b : Low) (n : ℕ) : Type 0 where
  pub delete : Delete
  pub deleting : row.deleting ≡ Some delete
  pub bucket : delete.bucket ≡ b
  pub node : delete.node ≡ n
  pub ended : IsEnded d

abbrev pub Allows : View → BTreeMap ℕ RowNote → Row → Doing → Decision → Type 0
Allows v notes row d (RowSplit b) = IsSplitOf row b
Allows v notes row d (RowsJoined p) = IsJoinOf v notes row p
Allows v notes row d (ActiveOn b n) = IsActivation v row d b n
Allows v notes row d (DeleteFrom b n serial) = IsDeletion v notes row b n serial
Allows v notes row d (DeleteOver b n) = IsEnd row d b n
Allows v notes row d _ = ⊥

-- ---- messages

-- what is said of a row to a node
abbrev pub IsSaidOf : Row → ℕ → Body → Type 0
IsSaidOf row n (body.Split b) = b ≡ row.bucket
IsSaidOf row n (body.Join b) = b ≡ row.bucket
IsSaidOf row n (body.Ready b) = b ≡ row.bucket
IsSaidOf row n (body.Activate b) = (b ≡ row.bucket) × (row.active ≡ Some n)
IsSaidOf row n (body.Delete b serial) = row.deleting ≡ Some (record { bucket = b; node = n; serial = serial })
IsSaidOf row n _ = ⊥

-- it is of a row, or of the row that a join made, or of the first half of the one that was split
abbrev pub IsSaid : View → Doing → ℕ → Body → Type 0
IsSaid v (JoinTold t bits at p m) n b = b ≡ body.Join p
IsSaid v (SplitTold at first second m) n b = b ≡ body.Split first
IsSaid v d n b = (at : ℕ) × (row : Row) × (slice_get v.rows at ≡ Some row) × IsSaidOf row n b

-- ---- steps

abbrev pub IsAllowed : View → BTreeMap ℕ RowNote → Doing → UpkeepStep → Type 0
IsAllowed v notes d (step.Tell n b) = (serves v.state n ≡ true) × IsSaid v d n b
IsAllowed v notes d (step.Decide at x) = (row : Row) × (slice_get v.rows at ≡ Some row) × Allows v notes row d x
IsAllowed v notes d (step.Accept at) = (row : Row) × (slice_get v.rows at ≡ Some row) × IsAnswered d
IsAllowed v notes d (step.Round at) = (row : Row) × (slice_get v.rows at ≡ Some row)
IsAllowed v notes d step.Finished = Unit {0}

abbrev pub IsAllowedTurn : View → BTreeMap ℕ RowNote → Doing → Turn → Type 0
IsAllowedTurn v notes d (Over e) = Unit {0}
IsAllowedTurn v notes d (Says x) = IsAllowed v notes d x
