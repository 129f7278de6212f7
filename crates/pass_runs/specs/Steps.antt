-- What a step of a pass leaves: of the rows behind a decision and an acceptance, and of all behind a round.
use Rattle.std.specs.Prelude.{◌≡◌, ℕ, true, Some, None, slice_get, slice_set}
use Rattle.std.specs.Ordering.{nat_cmp}
use Rattle.std.specs.BTreeMap.{BTreeMap, Updates}
use Rattle.bucket_ids.specs.Printed.{number_of}
use Rattle.cluster_states.specs.Publishing.{serves}
use Rattle.messages.specs.declared.decision.Decision.{Decision}
use Rattle.messages.specs.declared.decision.Decision.TheVariants.{RowSplit, RowsJoined, ActiveOn, DeleteFrom, DeleteOver}
use Rattle.bucket_db.specs.declared.row.Row.{Row}
use Rattle.distributor_part.specs.Parts.{Part, rows_of}
use Rattle.distributor_part.specs.Upkeep.{SplitsRow, JoinsRows, ActivatesAt, BeginsDelete, EndsDelete}
use Rattle.pass_model.specs.Nodes.{Node}
use Rattle.pass_model.specs.Shapes.{Nothing}
use Rattle.pass_model.specs.Rows.{Settings, round_node, round_row}
use Rattle.pass_machine.specs.declared.notes.RowNote.{RowNote}
use Rattle.pass_machine.specs.Turns.{View}
use Rattle.pass_machine.specs.Abstract.{IsParted, row_with}
use Rattle.pass_runs.specs.Worlds.{row_by}

-- what the owner's part does with a decision on the row of a place
abbrev pub IsDecidedBy : ℕ → Decision → Part → Part → Type 0
IsDecidedBy at (RowSplit b) p q = (x : SplitsRow p q at) × ((x.row).bucket ≡ b)
IsDecidedBy at (RowsJoined b) p q = (x : JoinsRows p q at) × ((x.joined).bucket ≡ b)
IsDecidedBy at (ActiveOn b n) p q = ActivatesAt p q at n
IsDecidedBy at (DeleteFrom b n serial) p q = BeginsDelete p q at n serial
IsDecidedBy at (DeleteOver b n) p q = EndsDelete p q b n
IsDecidedBy at _ p q = ⊥

-- the rows of the view are those of a part that did this, and all else stays
pub record Changes (v w : View) (R : Part → Part → Type 0) : Type 0 where
  pub before : Part
  pub after : Part
  pub rows : rows_of before.rows ≡ v.rows
  pub lane : before.lane ≡ v.lane
  pub view : w ≡ record v { rows = rows_of after.rows }
  pub does : R before after

-- the row of a place had a whole round, of which this is the note, and that is kept
pub record IsRoundAt (s : Settings) (still : ℕ → Node) (v w : View) (before after : BTreeMap ℕ RowNote) (ns ms : ℕ → Node) (at : ℕ) : Type 0 where
  pub row : Row
  pub found : slice_get v.rows at ≡ Some row
  pub note : RowNote
  pub of_row : note.bucket ≡ row.bucket
  pub whole : note.whole ≡ true
  pub parted : IsParted (serves v.state) note
  pub then : Row
  pub view : w ≡ record v { rows = slice_set v.rows at then }
  pub deleting : then.deleting ≡ row.deleting
  pub nodes : ms ≡ round_node s (row_with (λ n. Nothing) None row) ns
  pub becomes : row_by v.state still (Some note) then ≡ round_row s (row_with (λ n. Nothing) None row) ns
  pub kept : Updates nat_cmp before after (number_of row.bucket) (Some note)
