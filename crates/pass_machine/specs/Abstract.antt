-- The machine and the rows as `pass_model` has them in the abstract.
use Rattle.std.specs.Prelude.{◌≡◌, ◌==◌, ◌⊎◌, ◌&&◌, not, ◌<◌, ◌≤◌, ℕ, Bool, true, false, List, [], ◌∷◌, Option, Some, None, is_some, Contains, map, slice_get}
use Rattle.std.specs.List.{find, list_any, remove}
use Rattle.std.specs.Ordering.{nat_cmp}
use Rattle.std.specs.BTreeMap.{BTreeMap, get}
use Rattle.bucket_ids.specs.Buckets.{Low, IsBucket, first_child, second_child, parent_of}
use Rattle.bucket_ids.specs.Printed.{number_of}
use Rattle.pieces.specs.Pieces.{same_bucket}
use Rattle.node_sets.specs.Members.{has_node}
use Rattle.cluster_states.specs.Publishing.{serves}
use Rattle.messages.specs.declared.body.Body.{Body}
use Rattle.messages.specs.declared.body.Body.TheVariants as body
use Rattle.messages.specs.declared.decision.Decision.{Decision}
use Rattle.messages.specs.declared.decision.Decision.TheVariants.{ActiveOn, DeleteFrom, DeleteOver as DeleteIsOver, RowsJoined}
use Rattle.bucket_db.specs.Changes.{without_delete}
use Rattle.bucket_db.specs.declared.row.Row.{Row}
use Rattle.distributor_part.specs.Upkeep.{deleting_from}
use Rattle.pass_model.specs.Nodes.{Node}
use Rattle.pass_model.specs.Shapes.{Shape, Nothing, Same, Over as ShowedOver, Inside as ShowedInside, shape_beside}
use Rattle.pass_model.specs.Rows as rest
use Rattle.pass_model.specs.Rows.{Settings}
use Rattle.pass_model.specs.Passes.{World, merged}
use Rattle.pass_model.specs.Sweeps.{with_row}
use Rattle.pass_model.specs.Lanes.{is_taken}
use Rattle.pass_model.specs.Scripts.{told_node}
use Rattle.pass_model.specs.Turns as turns
use Rattle.pass_model.specs.Turns.{stand, turn_at, with_place_row, round_of, without_pair}
use Rattle.pass_machine.specs.declared.doing.Time.{Time}
use Rattle.pass_machine.specs.declared.doing.Time.TheVariants.{First, Again}
use Rattle.pass_machine.specs.declared.doing.Settle.{Settle}
use Rattle.pass_machine.specs.declared.doing.Settle.TheVariants as settle
use Rattle.pass_machine.specs.declared.doing.Doing.{Doing}
use Rattle.pass_machine.specs.declared.doing.Doing.TheVariants.{ResendingDelete, ResentDelete, ResendingActivate, ResentActivate, Rounding, Joining, JoinTold, JoinRound, Splitting, SplitTold, SplitFirst, SplitSecond, Settling, Finished}
use Rattle.pass_machine.specs.declared.doing.UpkeepStep.TheVariants as step
use Rattle.pass_machine.specs.declared.doing.Turn.{Turn}
use Rattle.pass_machine.specs.declared.doing.Turn.TheVariants.{Over, Says}
use Rattle.pass_machine.specs.declared.notes.Exact.{Exact}
use Rattle.pass_machine.specs.declared.notes.RowNote.{RowNote}
use Rattle.pass_machine.specs.Notes.{note_for, whole_in}
use Rattle.pass_machine.specs.Turns.{View, answered, decided, accepted, rounded}

-- ---- where it stands; of the rows that joins made the second time there is a list

abbrev pub time_of : List Low → Time → turns.Time
time_of made First = turns.First
time_of made Again = turns.Again made

abbrev pub settle_of : turns.Time → ℕ → Settle → turns.Doing
settle_of t at settle.Beginning = turns.Settling t at
settle_of t at (settle.Aligning n any) = turns.Aligning t at n any
settle_of t at settle.AlignRound = turns.AlignRound t at
settle_of t at (settle.Readying n ready) = turns.Readying t at n ready
settle_of t at (settle.Deciding ready) = turns.Deciding t at ready
settle_of t at settle.Activating = turns.Activating t at
settle_of t at (settle.Accepting accepted) = turns.Accepting t at accepted
settle_of t at (settle.Deleting n) = turns.Deleting t at n
settle_of t at (settle.DeleteTold n) = turns.DeleteTold t at n
settle_of t at (settle.DeleteOver n) = turns.DeleteOver t at n

-- Deletes that are sent again aside, which stand in a list there
abbrev pub doing_of : List Low → Doing → turns.Doing
doing_of made (Rounding at) = turns.Rounding at
doing_of made (Joining t bits at) = turns.Joining (time_of made t) bits at
doing_of made (JoinTold t bits at p n) = turns.JoinTold (time_of made t) bits at p n
doing_of made (JoinRound t bits at p) = turns.JoinRound (time_of made t) bits at p
doing_of made (Splitting at) = turns.Splitting at
doing_of made (SplitTold at b c n) = turns.SplitTold at (parent_of b) n
doing_of made (SplitFirst at b c) = turns.SplitFirst at (parent_of b)
doing_of made (SplitSecond at c) = turns.SplitSecond at (parent_of c)
doing_of made (Settling t at next) = settle_of (time_of made t) at next
doing_of made (ResendingActivate at) = turns.ResendingActivate at
doing_of made (ResentActivate at taken) = turns.ResentActivate at taken
doing_of made (ResendingDelete at) = turns.ResendingDelete []
doing_of made (ResentDelete at) = turns.ResentDelete []
doing_of made Finished = turns.Finished

-- the list has just the rows that the machine notes as made
abbrev pub AreMade : BTreeMap ℕ (Unit {0}) → List Low → Type 0
AreMade made list = (b : Low) → IsBucket b → list_any (same_bucket b) list ≡ is_some (get nat_cmp made (number_of b))

-- ---- rows

-- how the buckets stand that a node showed
abbrev pub shape_in : Option Exact → RowNote → ℕ → Shape
shape_in (Some x) note n = Same x.serial
shape_in None note n = shape_beside (has_node note.over n) (has_node note.inside n)

abbrev pub shown_in : RowNote → ℕ → Shape
shown_in note n = shape_in (find (λ (x : Exact). x.node == n) note.exact.items) note n

-- the active node accepted; where none is active yet, none did
abbrev pub is_accepted : Option ℕ → Bool → Bool
is_accepted None accepted = false
is_accepted (Some node) accepted = accepted

-- a row with the note of its last round, and one without a note. A node that doesn't serve isn't asked: what its buckets
-- are is given beside it
abbrev pub row_with : (ℕ → Shape) → Option RowNote → Row → rest.Row
row_with shown None row = record { bucket = row.bucket; complete = λ n. has_node row.complete n; active = row.active; accepted = is_accepted row.active row.accepted; documents = 0; holders = λ n. false; shown = λ n. Nothing }
row_with shown (Some note) row = record { bucket = row.bucket; complete = λ n. has_node row.complete n; active = row.active; accepted = is_accepted row.active row.accepted; documents = note.documents; holders = λ n. has_node note.holders n; shown = shown }

-- that is what those showed that serve
abbrev pub Shows : (ℕ → Bool) → RowNote → (ℕ → Shape) → Type 0
Shows serving note shown = (n : ℕ) → serving n ≡ true → shown n ≡ shown_in note n

-- just nodes that serve showed anything, each just the row, buckets over it or buckets inside it
pub record IsParted (serving : ℕ → Bool) (note : RowNote) : Type 0 where
  pub over : (n : ℕ) → has_node note.over n ≡ true → (serving n ≡ true) × (shown_in note n ≡ ShowedOver)
  pub inside : (n : ℕ) → has_node note.inside n ≡ true → (serving n ≡ true) × ((shown_in note n ≡ ShowedOver) ⊎ (shown_in note n ≡ ShowedInside))
  pub exact : (x : Exact) → Contains note.exact.items x → (serving x.node ≡ true) × (shown_in note x.node ≡ Same x.serial)

-- ---- settings

-- the settings of a pass are those that the machine reads; no more nodes are to be ready than there are to be copies
pub record Agrees (v : View) (s : Settings) : Type 0 where
  pub serving : (n : ℕ) → s.serving n ≡ serves v.state n
  pub ideal : s.ideal ≡ v.ideal
  pub redundancy : s.redundancy ≡ (v.rules).redundancy
  pub acks : s.acks ≡ (v.rules).acks
  pub searchable : s.searchable ≡ (v.rules).searchable
  pub searched : s.searchable ≤ s.redundancy

-- ---- a row that is settled, and the nodes

-- what is under way with the row: a Delete while a node is told, and an acceptance of an active node
abbrev pub Pends : (ℕ → Bool) → Settle → (ℕ → Shape) → Row → Type 0
Pends serving (settle.DeleteTold n) shown row = (serial : ℕ) × (row.deleting ≡ Some (record { bucket = row.bucket; node = n; serial = serial })) × (shown n ≡ Same serial) × (serving n ≡ true) × (n < 32)
Pends serving (settle.DeleteOver n) shown row = (serial : ℕ) × (row.deleting ≡ Some (record { bucket = row.bucket; node = n; serial = serial })) × (n < 32)
Pends serving (settle.Accepting accepted) shown row = (row.deleting ≡ None) × (accepted ≡ true → is_some row.active ≡ true)
Pends serving _ shown row = row.deleting ≡ None

-- the row of a place has the note of a whole round, its active node serves, and it is a row of the world
pub record IsPlace (v : View) (s : Settings) (w : World) (at : ℕ) (row : Row) (note : RowNote) (shown : ℕ → Shape) (next : Settle) : Type 0 where
  pub agrees : Agrees v s
  pub found : slice_get v.rows at ≡ Some row
  pub valid : IsBucket row.bucket
  pub serving : (n : ℕ) → row.active ≡ Some n → serves v.state n ≡ true
  pub parted : IsParted (serves v.state) note
  pub shows : Shows (serves v.state) note shown
  pub seen : slice_get w.rows at ≡ Some (row_with shown (Some note) row)
  pub pends : Pends (serves v.state) next shown row

-- what is told of a message: whether the node takes it, and that any reply ends a Delete
abbrev pub answer_of : Body → Node → Bool
answer_of (body.Delete b serial) x = true
answer_of b x = is_taken b x

-- the row behind a decision, where the marks that are left are given
abbrev pub after_decision : ℕ → Decision → Row → Row
after_decision marks (ActiveOn b n) row = record row { active = Some n; accepted = false }
after_decision marks (DeleteFrom b n serial) row = deleting_from row.bucket n serial marks row
after_decision marks (DeleteIsOver b n) row = without_delete b n row
after_decision marks _ row = row

abbrev pub AreMarks : Decision → Row → ℕ → Type 0
AreMarks (DeleteFrom b n serial) row marks = (m : ℕ) → has_node marks m ≡ (has_node row.complete m && not (m == n))
AreMarks _ row marks = Unit {0}

-- a turn of the machine is one or more of those of the abstract one: going over places is turns that change nothing, a
-- message is one turn, and so is a decision, an acceptance and a round
abbrev pub Refines : View → Settings → List Low → World → Row → RowNote → (ℕ → Shape) → Doing → Turn → Type 0
Refines v s made w row note shown d (Over e) = (k : ℕ) × (turns.turns s k (stand (doing_of made d) w) ≡ stand (doing_of made e) w)
Refines v s made w row note shown d (Says (step.Tell n b)) = turn_at s (doing_of made d) w
    ≡ stand (doing_of made (answered v (answer_of b (w.nodes n)) d)) (record { nodes = told_node n b w.nodes; rows = w.rows })
Refines v s made w row note shown d (Says (step.Decide at x)) = (marks : ℕ) → AreMarks x row marks → turn_at s (doing_of made d) w
    ≡ stand (doing_of made (decided d x)) (with_place_row at (row_with shown (Some note) (after_decision marks x row)) w)
Refines v s made w row note shown d (Says (step.Accept at)) = turn_at s (doing_of made d) w
    ≡ stand (doing_of made (accepted d)) (with_place_row at (row_with shown (Some note) (record row { accepted = true })) w)
Refines v s made w row note shown d (Says (step.Round at)) = turn_at s (doing_of made d) w
    ≡ stand (doing_of made (rounded v d)) (round_of s at (row_with shown (Some note) row) w)
Refines v s made w row note shown d (Says step.Finished) = d ≡ Finished

-- ---- messages to each node, and rounds of one row

-- a turn that needs nothing of the row: it goes over without a change, or tells one node
abbrev pub Tells : View → Settings → List Low → World → Doing → Turn → Type 0
Tells v s made w d (Over e) = (k : ℕ) × (turns.turns s k (stand (doing_of made d) w) ≡ stand (doing_of made e) w)
Tells v s made w d (Says (step.Tell n b)) = turn_at s (doing_of made d) w
    ≡ stand (doing_of made (answered v (answer_of b (w.nodes n)) d)) (record { nodes = told_node n b w.nodes; rows = w.rows })
Tells v s made w d (Says x) = ⊥

-- the rows of a world are of the same buckets, place by place
abbrev pub AreOfBuckets : List Row → List rest.Row → Type 0
AreOfBuckets [] [] = Unit {0}
AreOfBuckets (row ∷ rows) (r ∷ rs) = (row.bucket ≡ r.bucket) × AreOfBuckets rows rs
AreOfBuckets _ _ = ⊥

-- ---- joins

-- a row whose last round had all its answers, with the note of that, where no Delete is under way
pub record IsInNotes (notes : BTreeMap ℕ RowNote) (row : Row) (r : rest.Row) : Type 0 where
  pub note : RowNote
  pub shown : ℕ → Shape
  pub whole : whole_in (note_for row.bucket notes) ≡ Some note
  pub quiet : row.deleting ≡ None
  pub same : r ≡ row_with shown (Some note) row

-- the rows of a world are those of the part with their notes, place by place
abbrev pub AreNoted : BTreeMap ℕ RowNote → List Row → List rest.Row → Type 0
AreNoted notes [] [] = Unit {0}
AreNoted notes (row ∷ rows) (r ∷ rs) = IsInNotes notes row r × AreNoted notes rows rs
AreNoted notes _ _ = ⊥

-- a turn takes two halves away, and their parent comes, of which each node is told next
pub record IsPairJoined (s : Settings) (made : List Low) (w : World) (t : Time) (bits at : ℕ) (x : Decision) : Type 0 where
  pub one : rest.Row
  pub two : rest.Row
  pub other : ℕ
  pub found : slice_get w.rows at ≡ Some one
  pub beside : slice_get (remove w.rows at) other ≡ Some two
  pub first : one.bucket ≡ first_child (parent_of one.bucket)
  pub second : two.bucket ≡ second_child (parent_of one.bucket)
  pub decision : x ≡ RowsJoined (parent_of one.bucket)
  pub turn : turn_at s (doing_of made (Joining t bits at)) w ≡ stand (doing_of made (decided (Joining t bits at) x))
      (record { nodes = w.nodes; rows = with_row (merged (parent_of one.bucket) one two) (without_pair at other w.rows) })

-- a turn over the place changes nothing
abbrev pub Pairs : Settings → List Low → World → Time → ℕ → ℕ → Turn → Type 0
Pairs s made w t bits at (Over e) = turn_at s (doing_of made (Joining t bits at)) w ≡ stand (doing_of made e) w
Pairs s made w t bits at (Says (step.Decide k x)) = (k ≡ at) × IsPairJoined s made w t bits at x
Pairs s made w t bits at (Says x) = ⊥

-- ---- whole lists

-- a row with its note, where its last round had all its answers
abbrev pub row_in : (Low → ℕ → Shape) → BTreeMap ℕ RowNote → Row → rest.Row
row_in shown notes row = row_with (shown row.bucket) (whole_in (note_for row.bucket notes)) row

abbrev pub rows_in : (Low → ℕ → Shape) → BTreeMap ℕ RowNote → List Row → List rest.Row
rows_in shown notes = map (row_in shown notes)

-- ---- Activates that are sent again, before any round

-- to go over a row changes nothing, and a message is one turn and an acceptance one
abbrev pub Activates : View → Settings → World → Row → (ℕ → Shape) → Doing → Turn → Type 0
Activates v s w row shown d (Over e) = (k : ℕ) × (turns.turns s k (stand (doing_of [] d) w) ≡ stand (doing_of [] e) w)
Activates v s w row shown d (Says (step.Tell n b)) = turn_at s (doing_of [] d) w
    ≡ stand (doing_of [] (answered v (answer_of b (w.nodes n)) d)) (record { nodes = told_node n b w.nodes; rows = w.rows })
Activates v s w row shown d (Says (step.Accept at)) = turn_at s (doing_of [] d) w
    ≡ stand (doing_of [] (accepted d)) (with_place_row at (row_with shown None (record row { accepted = true })) w)
Activates v s w row shown d (Says x) = ⊥
