-- Where a pass stands: what is known of its rows, by what the machine is doing, and the turns of the abstract that lead
-- there from where the pass began.
use Rattle.std.specs.Prelude.{◌≡◌, ◌⊎◌, ◌<◌, ◌++◌, ℕ, true, List, [], Some, None, is_some, slice_get}
use Rattle.std.specs.Ordering.{nat_cmp}
use Rattle.std.specs.BTreeMap.{BTreeMap, get}
use Rattle.bucket_ids.specs.Buckets.{Low, first_child, second_child, parent_of}
use Rattle.cluster_states.specs.Publishing.{serves}
use Rattle.bucket_db.specs.declared.row.Row.{Row}
use Rattle.pass_model.specs.Nodes.{Node}
use Rattle.pass_model.specs.Rows.{Settings}
use Rattle.pass_model.specs.Passes.{World}
use Rattle.pass_model.specs.Turns as turns
use Rattle.pass_model.specs.Turns.{Stand, Unanswered, stand}
use Rattle.pass_model.specs.Orders as orders
use Rattle.pass_model.specs.Orders.{AreInOrder}
use Rattle.pass_machine.specs.declared.doing.Time.{Time}
use Rattle.pass_machine.specs.declared.doing.Time.TheVariants.{First, Again}
use Rattle.pass_machine.specs.declared.doing.Settle.{Settle}
use Rattle.pass_machine.specs.declared.doing.Doing.{Doing}
use Rattle.pass_machine.specs.declared.doing.Doing.TheVariants.{ResendingDelete, ResentDelete, ResendingActivate, ResentActivate, Rounding, Joining, JoinTold, JoinRound, Splitting, SplitTold, SplitFirst, SplitSecond, Settling, Finished}
use Rattle.pass_machine.specs.declared.notes.RowNote.{RowNote}
use Rattle.pass_machine.specs.Notes.{note_for, whole_in}
use Rattle.pass_machine.specs.Turns.{View}
use Rattle.pass_machine.specs.Abstract.{IsParted, Pends, AreMade, doing_of}
use Rattle.pass_runs.specs.Worlds.{shown_at, world_of}

-- ---- rows

-- no round was noted
abbrev pub NoNotes : BTreeMap ℕ RowNote → Type 0
NoNotes notes = (number : ℕ) → get nat_cmp notes number ≡ None

-- the last round of the row had all its answers
pub record HasNote (v : View) (notes : BTreeMap ℕ RowNote) (b : Low) : Type 0 where
  pub note : RowNote
  pub noted : whole_in (note_for b notes) ≡ Some note
  pub parted : IsParted (serves v.state) note

-- no row below a place has an unanswered Delete, and no row at all
abbrev pub NoneBelow : ℕ → List Row → Type 0
NoneBelow k rows = (at : ℕ) (row : Row) → at < k → slice_get rows at ≡ Some row → row.deleting ≡ None

abbrev pub NoneDeletes : List Row → Type 0
NoneDeletes rows = (at : ℕ) (row : Row) → slice_get rows at ≡ Some row → row.deleting ≡ None

-- the rows below a place had a whole round, and all rows, and all but those of some buckets
abbrev pub NotedBelow : ℕ → View → BTreeMap ℕ RowNote → Type 0
NotedBelow k v notes = (at : ℕ) (row : Row) → at < k → slice_get v.rows at ≡ Some row → HasNote v notes row.bucket

abbrev pub AreNoted : View → BTreeMap ℕ RowNote → Type 0
AreNoted v notes = (at : ℕ) (row : Row) → slice_get v.rows at ≡ Some row → HasNote v notes row.bucket

abbrev pub AreNotedBut : (Low → Type 0) → View → BTreeMap ℕ RowNote → Type 0
AreNotedBut Out v notes = (at : ℕ) (row : Row) → slice_get v.rows at ≡ Some row → (Out row.bucket → ⊥) → HasNote v notes row.bucket

-- a row has the bucket
abbrev pub IsRow : Low → List Row → Type 0
IsRow b rows = (at : ℕ) × (row : Row) × (slice_get rows at ≡ Some row) × (row.bucket ≡ b)

-- ---- by what the machine does

-- before the second joins no row was made by one that counts
abbrev pub IsTime : Time → List Low → Type 0
IsTime First list = list ≡ []
IsTime Again list = Unit {0}

-- all rows had a whole round, and none has an unanswered Delete
pub record AreWhole (v : View) (notes : BTreeMap ℕ RowNote) : Type 0 where
  pub noted : AreNoted v notes
  pub deletes : NoneDeletes v.rows

-- the same but for the row that a join made
pub record IsJoined (v : View) (notes : BTreeMap ℕ RowNote) (at : ℕ) (p : Low) : Type 0 where
  pub noted : AreNotedBut (λ b. b ≡ p) v notes
  pub deletes : NoneDeletes v.rows
  pub there : IsRow p v.rows
  pub place : (row : Row) × (slice_get v.rows at ≡ Some row)

-- the same but for both halves of a row that was split
pub record IsSplit (v : View) (notes : BTreeMap ℕ RowNote) (b c : Low) : Type 0 where
  pub noted : AreNotedBut (λ x. (x ≡ b) ⊎ (x ≡ c)) v notes
  pub deletes : NoneDeletes v.rows
  pub first : first_child (parent_of b) ≡ b
  pub second : second_child (parent_of c) ≡ c
  pub halves : parent_of c ≡ parent_of b
  pub first_there : IsRow b v.rows
  pub second_there : IsRow c v.rows

-- and but for the second half
pub record IsHalf (v : View) (notes : BTreeMap ℕ RowNote) (c : Low) : Type 0 where
  pub noted : AreNotedBut (λ x. x ≡ c) v notes
  pub deletes : NoneDeletes v.rows
  pub second : second_child (parent_of c) ≡ c
  pub second_there : IsRow c v.rows

-- all rows had a whole round; just the row of the place may have a Delete, which the machine knows
pub record IsSettled (still : ℕ → Node) (v : View) (notes : BTreeMap ℕ RowNote) (at : ℕ) (next : Settle) : Type 0 where
  pub noted : AreNoted v notes
  pub others : (k : ℕ) (row : Row) → (k ≡ at → ⊥) → slice_get v.rows k ≡ Some row → row.deleting ≡ None
  pub pends : (row : Row) (note : RowNote) → slice_get v.rows at ≡ Some row → whole_in (note_for row.bucket notes) ≡ Some note → Pends (serves v.state) next (shown_at v.state still row.bucket note) row

abbrev pub Knows : (ℕ → Node) → View → BTreeMap ℕ RowNote → List Low → Doing → Type 0
Knows still v notes list (ResendingDelete at) = (list ≡ []) × NoNotes notes × NoneBelow at v.rows
Knows still v notes list (ResentDelete at) = (list ≡ []) × NoNotes notes × NoneBelow at v.rows
Knows still v notes list (ResendingActivate at) = (list ≡ []) × NoNotes notes × NoneDeletes v.rows
Knows still v notes list (ResentActivate at taken) = (list ≡ []) × NoNotes notes × NoneDeletes v.rows × (taken ≡ true → (row : Row) → slice_get v.rows at ≡ Some row → is_some row.active ≡ true)
Knows still v notes list (Rounding at) = (list ≡ []) × NotedBelow at v notes × NoneDeletes v.rows
Knows still v notes list (Joining t bits at) = IsTime t list × (1 < bits) × AreWhole v notes
Knows still v notes list (JoinTold t bits at p n) = IsTime t list × (1 < bits) × IsJoined v notes at p
Knows still v notes list (JoinRound t bits at p) = IsTime t list × (1 < bits) × IsJoined v notes at p
Knows still v notes list (Splitting at) = (list ≡ []) × AreWhole v notes
Knows still v notes list (SplitTold at b c n) = (list ≡ []) × IsSplit v notes b c
Knows still v notes list (SplitFirst at b c) = (list ≡ []) × IsSplit v notes b c
Knows still v notes list (SplitSecond at c) = (list ≡ []) × IsHalf v notes c
Knows still v notes list (Settling t at next) = IsTime t list × IsSettled still v notes at next
Knows still v notes list Finished = Unit {0}

-- ---- the turns so far

-- some turns lead from one stand to another
abbrev pub Leads : Settings → Stand → Stand → Type 0
Leads s x y = (many : ℕ) × (turns.turns s many x ≡ y)

-- turns lead from where a pass begins, with these Deletes to be sent again, to what the machine does. While Deletes are
-- sent again there may be any more of them
abbrev pub Led : Settings → World → List Low → List Unanswered → Doing → World → Type 0
Led s first list sent (ResendingDelete at) w = (more : List Unanswered) → Leads s (stand (turns.ResendingDelete (sent ++ more)) first) (stand (turns.ResendingDelete more) w)
Led s first list sent (ResentDelete at) w = (more : List Unanswered) → Leads s (stand (turns.ResendingDelete (sent ++ more)) first) (stand (turns.ResentDelete more) w)
Led s first list sent d w = Leads s (stand (turns.ResendingDelete sent) first) (stand (doing_of list d) w)

-- where the pass stands that began with this world
pub record Stands (s : Settings) (still : ℕ → Node) (first : World) (v : View) (made : BTreeMap ℕ (Unit {0})) (notes : BTreeMap ℕ RowNote) (d : Doing) (ns : ℕ → Node) : Type 0 where
  pub order : AreInOrder s first.rows
  pub list : List Low
  pub are_made : AreMade made list
  pub knows : Knows still v notes list d
  pub sent : List Unanswered
  pub buckets : orders.AreOfBuckets sent
  pub led : Led s first list sent d (world_of still v notes ns)
