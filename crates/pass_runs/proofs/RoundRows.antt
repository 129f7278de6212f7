-- Behind a round: the row of the place is that of the abstract, and the other rows stay with their notes.
use Rattle.std.proofs.Common.{◌≡◌, ◌∙◌, ◌⊎◌, inl, inr, ℕ, zero, suc, List, [], ◌∷◌, map, length, Option, Some, None, refl, sym, ap, ap₂, subst, slice_get, slice_set}
use Rattle.std.specs.BTreeMap.{BTreeMap}
use Rattle.bucket_ids.specs.Buckets.{Low}
use Rattle.bucket_ids.specs.Printed.{number_of}
use Rattle.bucket_db.specs.declared.row.Row.{Row}
use Rattle.cluster_states.specs.declared.cluster_state.ClusterState.{ClusterState}
use Rattle.cluster_states.specs.Publishing.{serves}
use Rattle.pass_model.specs.Nodes.{Node}
use Rattle.pass_model.specs.Shapes.{Nothing}
use Rattle.pass_model.specs.Rows as rest
use Rattle.pass_model.specs.Rows.{Settings, round_node, round_row}
use Rattle.pass_model.specs.Turns.{round_of}
use Rattle.pass_machine.specs.declared.notes.RowNote.{RowNote}
use Rattle.pass_machine.specs.Notes.{note_for, whole_in}
use Rattle.pass_machine.specs.Turns.{View}
use Rattle.pass_machine.specs.Abstract.{IsParted, row_with}
use Rattle.pass_runs.specs.Worlds.{IsUnder, row_by, row_of, world_of}
use Rattle.pass_runs.specs.Steps.{IsRoundAt}
use Rattle.pass_runs.specs.Standing.{HasNote, NoneDeletes, AreNoted, AreNotedBut, IsRow}
use Rattle.pass_runs.proofs.Rows.{note_stays, note_now, whole_now, numbers_apart, get_set_same, get_set_other, world_set, place_once, set_is, quiet_set, at_or, same_there, note_in_view, note_kept}

-- ---- what a round reads of a row

-- neither documents nor who holds them nor what was shown
same_round_nodes : (s : Settings) (state : ClusterState) (still ns : ℕ → Node) (o : Option RowNote) (row : Row) → round_node s (row_with (λ n. Nothing) None row) ns ≡ round_node s (row_by state still o row) ns
same_round_nodes s state still ns None row = refl
same_round_nodes s state still ns (Some note) row = refl

same_round_row : (s : Settings) (state : ClusterState) (still ns : ℕ → Node) (o : Option RowNote) (row : Row) → round_row s (row_with (λ n. Nothing) None row) ns ≡ round_row s (row_by state still o row) ns
same_round_row s state still ns None row = refl
same_round_row s state still ns (Some note) row = refl

length-set : {X : Type 0} (xs : List X) (at : ℕ) (y : X) → length (slice_set xs at y) ≡ length xs
length-set [] at y = refl
length-set (x ∷ xs) zero y = refl
length-set (x ∷ xs) (suc at) y = ap suc (length-set xs at y)

module _ (s : Settings) (still : ℕ → Node) (v w : View) (before after : BTreeMap ℕ RowNote) (ns ms : ℕ → Node) (at : ℕ) (under : IsUnder s still v ns) (x : IsRoundAt s still v w before after ns ms at) where
  pub round_state : w.state ≡ v.state
  round_state = ap (λ (u : View). u.state) x.view

  pub round_lane : w.lane ≡ v.lane
  round_lane = ap (λ (u : View). u.lane) x.view

  pub round_rows : w.rows ≡ slice_set v.rows at x.then
  round_rows = ap (λ (u : View). u.rows) x.view

  pub round_length : length w.rows ≡ length v.rows
  round_length = ap (λ (rows : List Row). length rows) round_rows ∙ length-set v.rows at x.then

  -- the row of the place keeps its bucket
  pub round_bucket : x.then.bucket ≡ x.row.bucket
  round_bucket = ap (λ (r : rest.Row). r.bucket) x.becomes

  -- it is that row, and the other rows are as they were
  pub round_rows_are : (k : ℕ) (row : Row) → slice_get w.rows k ≡ Some row → ((k ≡ at) × (row ≡ x.then)) ⊎ ((k ≡ at → ⊥) × (slice_get v.rows k ≡ Some row))
  round_rows_are k row found = set_is v.rows at k x.row x.then row x.found (subst (λ (rows : List Row). slice_get rows k ≡ Some row) round_rows found)

  pub round_place : slice_get w.rows at ≡ Some x.then
  round_place = ap (λ (rows : List Row). slice_get rows at) round_rows ∙ get_set_same v.rows at x.row x.then x.found

  pub round_others : (k : ℕ) → (k ≡ at → ⊥) → slice_get w.rows k ≡ slice_get v.rows k
  round_others k off = ap (λ (rows : List Row). slice_get rows k) round_rows ∙ get_set_other v.rows at k x.then off

  -- ---- notes

  pub round_note : note_for x.row.bucket after ≡ Some x.note
  round_note = note_now before after x.row.bucket x.note x.kept x.of_row

  pub round_whole : whole_in (note_for x.row.bucket after) ≡ Some x.note
  round_whole = ap whole_in round_note ∙ whole_now x.note x.whole

  pub round_keeps : (k : ℕ) (row : Row) → (k ≡ at → ⊥) → slice_get v.rows k ≡ Some row → note_for row.bucket after ≡ note_for row.bucket before
  round_keeps k row off found = note_stays before after (number_of x.row.bucket) (Some x.note) row.bucket x.kept (numbers_apart v.lane v.rows under.rows k at row x.row off found x.found)

  -- the row of the place has one
  pub round_noted : HasNote w after x.row.bucket
  round_noted = record {
    note = x.note;
    noted = round_whole;
    parted = subst (λ (state : ClusterState). IsParted (serves state) x.note) (sym round_state) x.parted;
  }

  -- and so has each other row that had one
  pub round_noted_still : (k : ℕ) (row : Row) → (k ≡ at → ⊥) → slice_get v.rows k ≡ Some row → HasNote v before row.bucket → HasNote w after row.bucket
  round_noted_still k row off found h = note_in_view v w after row.bucket round_state (note_kept v before after row.bucket (round_keeps k row off found) h)

  -- rows that need no note needn't have one then
  pub round_noted_but : (Out Left : Low → Type 0) → ((b : Low) → (Left b → ⊥) → (b ≡ x.row.bucket → ⊥) → Out b → ⊥) → AreNotedBut Out v before → AreNotedBut Left w after
  round_noted_but Out Left fewer noted k row found off = elim (round_rows_are k row found) [
    | inl e ↦ subst (λ (b : Low). HasNote w after b) (sym (ap (λ (r : Row). r.bucket) e.1 ∙ round_bucket)) round_noted
    | inr e ↦ by_other e.0 e.1
  ]
    where
      by_other : (k ≡ at → ⊥) → slice_get v.rows k ≡ Some row → HasNote w after row.bucket
      by_other other there = round_noted_still k row other there (noted k row there (fewer row.bucket off (λ same. other (place_once v.lane v.rows under.rows k at row x.row there x.found same))))

  pub round_noted_all : AreNotedBut (λ b. b ≡ x.row.bucket) v before → AreNoted w after
  round_noted_all noted k row found = round_noted_but (λ b. b ≡ x.row.bucket) (λ b. ⊥) (λ b left off same. off same) noted k row found (λ left. left)

  -- ---- what else of the rows

  pub round_quiet : NoneDeletes v.rows → NoneDeletes w.rows
  round_quiet none = subst NoneDeletes (sym round_rows) (quiet_set v.rows at x.row x.then x.found x.deleting none)

  pub round_is_row : (b : Low) → IsRow b v.rows → IsRow b w.rows
  round_is_row b (k, row, there, same) = at_or (IsRow b w.rows) k at
      (λ e. (at, x.then, round_place, round_bucket ∙ (ap (λ (r : Row). r.bucket) (same_there v.rows k at x.row row x.found e there) ∙ same)))
      (λ off. (k, row, round_others k off ∙ there, same))

  -- ---- the world

  then-is : row_of v.state still after x.then ≡ round_row s (row_of v.state still before x.row) ns
  then-is = ap (λ (b : Low). row_by v.state still (whole_in (note_for b after)) x.then) round_bucket
      ∙ (ap (λ (o : Option RowNote). row_by v.state still o x.then) round_whole
      ∙ (x.becomes ∙ same_round_row s v.state still ns (whole_in (note_for x.row.bucket before)) x.row))

  -- nodes and rows are those behind the round in the abstract
  pub round_world : world_of still w after ms ≡ round_of s at (row_of v.state still before x.row) (world_of still v before ns)
  round_world = ap (λ (u : View). world_of still u after ms) x.view
      ∙ ap₂ (λ (nodes : ℕ → Node) (rows : List rest.Row). record { nodes = nodes; rows = rows })
      (x.nodes ∙ same_round_nodes s v.state still ns (whole_in (note_for x.row.bucket before)) x.row)
      (world_set v.state still before after v.rows at x.then round_keeps ∙ ap (λ (r : rest.Row). slice_set (map (row_of v.state still before) v.rows) at r) then-is)
