-- What the note of a round says, and what the round makes of the owner's rows.
use Rattle.std.specs.Prelude.{◌≡◌, ◌↔◌, ◌<◌, ◌≤◌, ◌&&◌, ◌||◌, ◌==◌, ℕ, Bool, true, false, nat_lt, List, [], ◌∷◌, Option, Some, None, is_some, Contains, slice_get, if◌then◌else◌}
use Rattle.std.specs.List.{list_any}
use Rattle.bucket_ids.specs.Buckets.{Low, covers}
use Rattle.node_sets.specs.Members.{has_node}
use Rattle.cluster_states.specs.declared.cluster_state.ClusterState.{ClusterState}
use Rattle.carriers.specs.declared.fate.Fate.{Fate}
use Rattle.entry_maps.specs.Entries.{documents_of}
use Rattle.pieces.specs.declared.piece.Piece.{Piece}
use Rattle.bucket_db.specs.Rows.{Rows}
use Rattle.bucket_db.specs.declared.row.Row.{Row}
use Rattle.distributor_part.specs.Parts.{Part}
use Rattle.distributor_part.specs.Steps.{with_marks}
use Rattle.distributor_part.specs.Upkeep.{BeginsRoundAt}
use Rattle.merge_rounds.specs.Rounds.{RoundState, HaveAllShown, pieces_by}
use Rattle.lane_journals.specs.declared.event.LaneEvent.{LaneEvent}
use Rattle.lane_keeping.specs.LaneKeeping.{node_in}
use Rattle.lane_keeping.specs.RoundKeeping.{KnowsAnswers}
use Rattle.lane_keeping.specs.Spans.{NodesGo}
use Rattle.lane_states.specs.declared.lane_state.LaneState.{LaneState}
use Rattle.round_keeping.specs.declared.round_run.RoundEnd.{RoundEnd}
use Rattle.round_keeping.specs.declared.round_run.RoundRun.{RoundRun}
use Rattle.lane_states.specs.LaneStates.{journal_of, part_of}
use Rattle.round_keeping.specs.RoundRuns.{Begins, GoesOn, IsEnd, IsWholeRun}
use Rattle.lane_upkeep.specs.declared.owner.Owner.{Owner}
use Rattle.pass_machine.specs.declared.notes.Exact.{Exact}
use Rattle.pass_machine.specs.declared.notes.RowNote.{RowNote}

-- the piece lies strictly over the row, or strictly inside it
abbrev pub is_over : Low → Piece → Bool
is_over row p = nat_lt (p.bucket).bits row.bits && covers p.bucket row

abbrev pub is_inside : Low → Piece → Bool
is_inside row p = nat_lt row.bits (p.bucket).bits && covers row p.bucket

-- the piece is just the row
abbrev pub is_exact : Low → Piece → Bool
is_exact row p = (p.bucket).bits == row.bits && (p.bucket).low == row.low

-- the serial of the piece that is just the row, if one of these is
abbrev pub serial_in : Low → List Piece → Option ℕ
serial_in row [] = None
serial_in row (p ∷ pieces) = if is_exact row p then Some p.serial else serial_in row pieces

-- of the nodes below a number just those that showed just the row of a round, each with its serial there
pub record AreExactBelow (r : RoundState) (n : ℕ) (exact : List Exact) : Type 0 where
  pub each : (x : Exact) → Contains exact x → serial_in r.row (pieces_by x.node r.shown) ≡ Some x.serial
  pub below : (k : ℕ) → k < n → list_any (λ x. x.node == k) exact ≡ is_some (serial_in r.row (pieces_by k r.shown))
  pub from : (k : ℕ) → n ≤ k → list_any (λ x. x.node == k) exact ≡ false

-- what the note of a round says
pub record IsNoteOf (r : RoundState) (note : RowNote) : Type 0 where
  pub bucket_is : note.bucket ≡ r.row
  pub whole_is : (note.whole ≡ true) ↔ HaveAllShown r.readers r.shown
  pub holders_are : note.holders ≡ r.holders
  pub over_are : (n : ℕ) → n < 32 → has_node note.over n ≡ list_any (is_over r.row) (pieces_by n r.shown)
  pub inside_are : (n : ℕ) → n < 32 → has_node note.inside n ≡ list_any (is_inside r.row) (pieces_by n r.shown)
  pub exact_are : AreExactBelow r 32 (note.exact).items
  pub documents_are : note.documents ≡ (if note.whole then documents_of r.union else 0)

-- it is the note of a round whose answers are those of its row's last round
pub record NotesRound (J : List LaneEvent) (s : ClusterState) (note : RowNote) : Type 0 where
  pub round : RoundState
  pub answers : KnowsAnswers J s round
  pub note_is : IsNoteOf round note

-- the row of a place has the marks that its round gave, and the part is else as it was
pub record GainsMarks (p q : Part) (at complete : ℕ) : Type 0 where
  pub rows : Rows
  pub row : Row
  pub opened : p.rows ≡ Some rows
  pub found : slice_get rows.rows at ≡ Some row
  pub marks : ℕ
  pub gained : (n : ℕ) → has_node marks n ≡ (has_node row.complete n || has_node complete n)
  pub after : q ≡ record p { rows = Some (with_marks rows at marks) }

-- a round of the row of a place was begun, run to its end and ended; this is what it was then
pub record RanRound (c e : LaneState) (o : Owner) (at : ℕ) (given after : List Fate) (run : RoundRun) : Type 0 where
  pub begun : RoundRun
  pub state_is : begun.state ≡ o.state
  pub part : Part
  pub step : BeginsRoundAt (part_of c o.distributor) part at (begun.round).row (begun.round).receivers
  pub journal : List LaneEvent
  pub begins : Begins c.lane (journal_of c) journal o.distributor begun.key begun
  pub goes : GoesOn begun run
  pub end : RoundEnd
  pub whole : IsWholeRun c.lane begun end given after c.last e.last c.late.late e.late.late journal (journal_of e)
  pub is_end : IsEnd (journal_of e) run end
  -- the nodes went through its messages
  pub nodes : NodesGo journal (node_in c.nodes.items) (journal_of e) (node_in e.nodes.items)

-- it is the note of that round, for which no node wanted memory
pub record NotesRun (c e : LaneState) (o : Owner) (at : ℕ) (given after : List Fate) (note : RowNote) : Type 0 where
  pub run : RoundRun
  pub ran : RanRound c e o at given after run
  pub note_is : IsNoteOf run.round note
  pub all_read : run.unread ≡ false
  pub all_applied : run.unapplied ≡ false
