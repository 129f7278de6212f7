-- Notes that go with a decision: the rows behind it, with the notes that are left.
use Rattle.std.proofs.Common.{◌≡◌, ◌∙◌, ◌==◌, ◌⊎◌, inl, inr, ℕ, Bool, true, false, List, [], ◌∷◌, map, Option, None, refl, sym, ap, ap₂, eqb-true, eq-eqb}
use Rattle.std.specs.Ordering.{nat_cmp}
use Rattle.std.specs.List.{AllByRecursion}
use Rattle.std.specs.BTreeMap.{BTreeMap, get}
use Rattle.bucket_ids.specs.Buckets.{Low}
use Rattle.bucket_ids.specs.Printed.{number_of}
use Rattle.bucket_db.specs.declared.row.Row.{Row}
use Rattle.cluster_states.specs.declared.cluster_state.ClusterState.{ClusterState}
use Rattle.pass_model.specs.Nodes.{Node}
use Rattle.pass_model.specs.Shapes.{Shape}
use Rattle.pass_model.specs.Rows as rest
use Rattle.pass_model.specs.Passes.{World}
use Rattle.proof_basics.proofs.Tests.{clash}
use Rattle.pass_machine.specs.declared.notes.RowNote.{RowNote}
use Rattle.pass_machine.specs.Notes.{of_bucket, note_for, whole_in}
use Rattle.pass_machine.specs.Turns.{View}
use Rattle.pass_machine.specs.Going.{Forgets}
use Rattle.pass_machine.specs.Abstract.{row_with, row_in, rows_in}
use Rattle.proof_basics.proofs.Lists.{same_images}
use Rattle.pass_runs.specs.Worlds.{shown_by, row_of, world_of}
use Rattle.pass_runs.proofs.Rows.{note_stays}

-- ---- notes

by-number : (m n : ℕ) → (m ≡ n) ⊎ (m ≡ n → ⊥)
by-number m n = by_test (m == n) refl
  where
    by_test : (t : Bool) → (m == n) ≡ t → (m ≡ n) ⊎ (m ≡ n → ⊥)
    by_test true e = inl (eqb-true m n e)
    by_test false e = inr (λ same. clash (eq-eqb m n same) e)

-- a row has no note then, or the one that it had
pub gone_or_same : (bs : List Low) (old new : BTreeMap ℕ RowNote) → Forgets bs old new → (b : Low) → (note_for b new ≡ None) ⊎ (note_for b new ≡ note_for b old)
gone_or_same [] old new f b = inr (ap (λ (m : BTreeMap ℕ RowNote). note_for b m) f)
gone_or_same (c ∷ cs) old new f b = by_later (gone_or_same cs f.0 new f.2 b) (by-number (number_of b) (number_of c))
  where
    by_later : (note_for b new ≡ None) ⊎ (note_for b new ≡ note_for b f.0) → (number_of b ≡ number_of c) ⊎ (number_of b ≡ number_of c → ⊥) → (note_for b new ≡ None) ⊎ (note_for b new ≡ note_for b old)
    by_later (inl gone) n = inl gone
    by_later (inr same) (inl e) = inl (same ∙ (ap (λ (n : ℕ). of_bucket b (get nat_cmp f.0 n)) e ∙ ap (of_bucket b) (f.1).1))
    by_later (inr same) (inr off) = inr (same ∙ note_stays old f.0 (number_of c) None b f.1 off)

-- that of another number stays
pub notes_stay : (bs : List Low) (old new : BTreeMap ℕ RowNote) → Forgets bs old new → (b : Low) → AllByRecursion (λ c. number_of b ≡ number_of c → ⊥) bs → note_for b new ≡ note_for b old
notes_stay [] old new f b off = ap (λ (m : BTreeMap ℕ RowNote). note_for b m) f
notes_stay (c ∷ cs) old new f b off = notes_stay cs f.0 new f.2 b off.1 ∙ note_stays old f.0 (number_of c) None b f.1 off.0

-- ---- rows

-- what each row showed in its last round
abbrev pub shown_of : ClusterState → (ℕ → Node) → BTreeMap ℕ RowNote → Low → ℕ → Shape
shown_of state still notes b = shown_by state still b (whole_in (note_for b notes))

-- a row without a note doesn't read what was shown
forgotten-row : (state : ClusterState) (still : ℕ → Node) (old new : BTreeMap ℕ RowNote) (row : Row) → (note_for row.bucket new ≡ None) ⊎ (note_for row.bucket new ≡ note_for row.bucket old)
    → row_of state still new row ≡ row_in (shown_of state still old) new row
forgotten-row state still old new row (inl gone) =
    ap (λ (o : Option RowNote). row_with (shown_by state still row.bucket (whole_in o)) (whole_in o) row) gone
    ∙ sym (ap (λ (o : Option RowNote). row_with (shown_of state still old row.bucket) (whole_in o) row) gone)
forgotten-row state still old new row (inr same) = ap (λ (o : Option RowNote). row_with (shown_by state still row.bucket (whole_in o)) (whole_in (note_for row.bucket new)) row) same

pub rows_forgotten : (state : ClusterState) (still : ℕ → Node) (bs : List Low) (old new : BTreeMap ℕ RowNote) → Forgets bs old new → (rows : List Row) → map (row_of state still new) rows ≡ rows_in (shown_of state still old) new rows
rows_forgotten state still bs old new f rows =
    same_images (row_of state still new) (row_in (shown_of state still old) new) rows (λ k row found. forgotten-row state still old new row (gone_or_same bs old new f row.bucket))

abbrev pub world_with : (ℕ → Node) → List rest.Row → World
world_with ns rows = record { nodes = ns; rows = rows }

-- the world behind a decision
pub world_forgotten : (v w : View) (still : ℕ → Node) (bs : List Low) (old new : BTreeMap ℕ RowNote) (ns : ℕ → Node) (rows : List Row) → w.state ≡ v.state → w.rows ≡ rows → Forgets bs old new
    → world_of still w new ns ≡ world_with ns (rows_in (shown_of v.state still old) new rows)
world_forgotten v w still bs old new ns rows state same f =
    ap₂ (λ (x : ClusterState) (rs : List Row). world_with ns (map (row_of x still new) rs)) state same ∙ ap (world_with ns) (rows_forgotten v.state still bs old new f rows)
