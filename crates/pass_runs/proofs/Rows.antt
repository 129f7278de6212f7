-- The rows of a pass with their notes, where one row or one note becomes another.
use Rattle.std.proofs.Common.{◌⊎◌, inl, inr, true≢false, ◌≡◌, ◌∙◌, ◌==◌, ◌&&◌, ◌<◌, ℕ, zero, suc, Bool, true, false, cond, List, [], ◌∷◌, map, Option, Some, None, refl, sym, ap, ap₂, subst, arith, nat_lt, slice_get, slice_set, eqb-true, eq-eqb, if◌then◌else◌, Less, Equal, Greater}
use Rattle.std.specs.Ordering.{nat_cmp, is_eq}
use Rattle.std.specs.BTreeMap.{BTreeMap, Updates, get}
use Rattle.bucket_ids.specs.Buckets.{Low, IsBucket, has_key}
use Rattle.bucket_ids.specs.Printed.{number_of}
use Rattle.bucket_db.specs.Changes.{at_row}
use Rattle.bucket_db.specs.Rows.{AreRows, buckets_of}
use Rattle.bucket_db.specs.declared.row.Row.{Row}
use Rattle.bucket_db.proofs.Inside.{has_low, number_same}
use Rattle.cluster_states.specs.declared.cluster_state.ClusterState.{ClusterState}
use Rattle.cluster_states.specs.Publishing.{serves}
use Rattle.pass_model.specs.Nodes.{Node}
use Rattle.pass_model.specs.Shapes.{shape_of}
use Rattle.pass_machine.specs.declared.notes.RowNote.{RowNote}
use Rattle.pass_machine.specs.Notes.{of_bucket, note_for, whole_in}
use Rattle.pass_machine.specs.Turns.{View}
use Rattle.pass_machine.specs.Abstract.{shown_in, row_with, Shows, AreOfBuckets, IsInNotes, IsParted}
use Rattle.pass_machine.specs.Abstract as steps
use Rattle.proof_basics.proofs.Lists.{same_images, image_at}
use Rattle.pass_machine.proofs.WholeLists.{valid, one-place}
use Rattle.pass_runs.specs.Worlds.{shown_at, row_by, row_of}
use Rattle.pass_runs.specs.Standing.{HasNote, NoneDeletes}

-- ---- one row

pub row_by_bucket : (state : ClusterState) (still : ℕ → Node) (note : Option RowNote) (row : Row) → (row_by state still note row).bucket ≡ row.bucket
row_by_bucket state still None row = refl
row_by_bucket state still (Some note) row = refl

pub row_of_bucket : (state : ClusterState) (still : ℕ → Node) (notes : BTreeMap ℕ RowNote) (row : Row) → (row_of state still notes row).bucket ≡ row.bucket
row_of_bucket state still notes row = row_by_bucket state still (whole_in (note_for row.bucket notes)) row

-- a row that had a whole round has its note
pub row_noted : (state : ClusterState) (still : ℕ → Node) (notes : BTreeMap ℕ RowNote) (row : Row) (note : RowNote) → whole_in (note_for row.bucket notes) ≡ Some note → row_of state still notes row ≡ row_with (shown_at state still row.bucket note) (Some note) row
row_noted state still notes row note e = ap (λ (o : Option RowNote). row_by state still o row) e

-- what those showed that serve
shows-by : (note : RowNote) (b : Low) (x : Node) (n : ℕ) (t : Bool) → t ≡ true → (if t then shown_in note n else shape_of b x.pieces) ≡ shown_in note n
shows-by note b x n true e = refl
shows-by note b x n false e = cc

pub shown_shows : (state : ClusterState) (still : ℕ → Node) (b : Low) (note : RowNote) → Shows (serves state) note (shown_at state still b note)
shown_shows state still b note n on = shows-by note b (still n) n (serves state n) on

-- ---- the rows of the world

pub world_buckets : (state : ClusterState) (still : ℕ → Node) (notes : BTreeMap ℕ RowNote) (rows : List Row) → AreOfBuckets rows (map (row_of state still notes) rows)
world_buckets state still notes [] = tt
world_buckets state still notes (row ∷ rows) = (sym (row_of_bucket state still notes row), world_buckets state still notes rows)

pub world_row : (state : ClusterState) (still : ℕ → Node) (notes : BTreeMap ℕ RowNote) (rows : List Row) (at : ℕ) (row : Row) → slice_get rows at ≡ Some row → slice_get (map (row_of state still notes) rows) at ≡ Some (row_of state still notes row)
world_row state still notes rows at row found = image_at (row_of state still notes) rows at row found

pub world_none : (state : ClusterState) (still : ℕ → Node) (notes : BTreeMap ℕ RowNote) (rows : List Row) (at : ℕ) → slice_get rows at ≡ None → slice_get (map (row_of state still notes) rows) at ≡ None
world_none state still notes [] at none = refl
world_none state still notes (row ∷ rows) zero none = cc
world_none state still notes (row ∷ rows) (suc at) none = world_none state still notes rows at none

-- where each had a whole round and none a Delete, they are noted
pub world_noted : (v : View) (still : ℕ → Node) (notes : BTreeMap ℕ RowNote) (rows : List Row) → ((at : ℕ) (row : Row) → slice_get rows at ≡ Some row → HasNote v notes row.bucket) → NoneDeletes rows → steps.AreNoted notes rows (map (row_of v.state still notes) rows)
world_noted v still notes [] noted none = tt
world_noted v still notes (row ∷ rows) noted none =
    let h : HasNote v notes row.bucket = noted 0 row refl in (
      record {
        note = h.note;
        shown = shown_at v.state still row.bucket h.note;
        whole = h.noted;
        quiet = none 0 row refl;
        same = row_noted v.state still notes row h.note h.noted;
      },
      world_noted v still notes rows (λ at q found. noted (suc at) q found) (λ at q found. none (suc at) q found),
    )

-- ---- notes

other-key : (m n : ℕ) (t w : Bool) → (m == n) ≡ w → (n ≡ m → ⊥) → is_eq (cond t Less (cond w Equal Greater)) ≡ false
other-key m n true w e off = refl
other-key m n false true e off = absurd (off (sym (eqb-true m n e)))
other-key m n false false e off = refl

-- what is kept by another number stays
pub key_stays : {X : Type 0} (old new : BTreeMap ℕ X) (m n : ℕ) (o : Option X) → Updates nat_cmp old new m o → (n ≡ m → ⊥) → get nat_cmp new n ≡ get nat_cmp old n
key_stays old new m n o u off = u.2 n (other-key m n (nat_lt m n) (m == n) refl off)

pub note_stays : (old new : BTreeMap ℕ RowNote) (m : ℕ) (o : Option RowNote) (b : Low) → Updates nat_cmp old new m o → (number_of b ≡ m → ⊥) → note_for b new ≡ note_for b old
note_stays old new m o b u off = ap (of_bucket b) (key_stays old new m (number_of b) o u off)

-- and the note that is kept now is that of its bucket
own-bucket : (b : Low) (note : RowNote) → note.bucket ≡ b → of_bucket b (Some note) ≡ Some note
own-bucket b note e =
    ap₂ (λ (x y : Bool). if x && y then Some note else None) (eq-eqb (note.bucket).bits b.bits (ap (λ (c : Low). c.bits) e)) (eq-eqb (note.bucket).low b.low (ap (λ (c : Low). c.low) e))

pub note_now : (old new : BTreeMap ℕ RowNote) (b : Low) (note : RowNote) → Updates nat_cmp old new (number_of b) (Some note) → note.bucket ≡ b → note_for b new ≡ Some note
note_now old new b note u e = ap (of_bucket b) u.1 ∙ own-bucket b note e

pub whole_now : (note : RowNote) → note.whole ≡ true → whole_in (Some note) ≡ Some note
whole_now note e = ap (λ (t : Bool). if t then Some note else None) e

-- a row has its note in another view of the same state
pub note_in_view : (v w : View) (notes : BTreeMap ℕ RowNote) (b : Low) → w.state ≡ v.state → HasNote v notes b → HasNote w notes b
note_in_view v w notes b same h = record {
  note = h.note;
  noted = h.noted;
  parted = subst (λ (state : ClusterState). IsParted (serves state) h.note) (sym same) h.parted;
}

-- and where the note stays
pub note_kept : (v : View) (before after : BTreeMap ℕ RowNote) (b : Low) → note_for b after ≡ note_for b before → HasNote v before b → HasNote v after b
note_kept v before after b same h = record {
  note = h.note;
  noted = ap whole_in same ∙ h.noted;
  parted = h.parted;
}

-- ---- places

-- a place is this one or another
pub at_or : (A : Type 0) (k at : ℕ) → (k ≡ at → A) → ((k ≡ at → ⊥) → A) → A
at_or A k at here there = by_test (k == at) refl
  where
    by_test : (t : Bool) → (k == at) ≡ t → A
    by_test true e = here (eqb-true k at e)
    by_test false e = there (λ same. true≢false (sym (eq-eqb k at same) ∙ e))

pub same_some : {X : Type 0} (o : Option X) (x y : X) → o ≡ Some x → o ≡ Some y → x ≡ y
same_some o x y e f = cc

pub same_there : {X : Type 0} (xs : List X) (k at : ℕ) (x y : X) → slice_get xs at ≡ Some x → k ≡ at → slice_get xs k ≡ Some y → x ≡ y
same_there xs k at x y found e there = same_some (slice_get xs at) x y found (subst (λ (j : ℕ). slice_get xs j ≡ Some y) e there)

-- where a place has no row, none behind it has
pub none_behind : {X : Type 0} (xs : List X) (at k : ℕ) (x : X) → slice_get xs at ≡ None → slice_get xs k ≡ Some x → k < at
none_behind [] at k x none found = cc
none_behind (y ∷ ys) zero k x none found = cc
none_behind (y ∷ ys) (suc at) zero x none found = omega arith
none_behind (y ∷ ys) (suc at) (suc k) x none found = let less = none_behind ys at k x none found in omega (arith, less)

pub none_next : {X : Type 0} (xs : List X) (at : ℕ) → slice_get xs at ≡ None → slice_get xs (suc at) ≡ None
none_next [] at none = refl
none_next (x ∷ xs) zero none = cc
none_next (x ∷ xs) (suc at) none = none_next xs at none

module _ (lane : Low) (rows : List Row) (h : AreRows lane (buckets_of rows)) where
  pub row_valid : (at : ℕ) (row : Row) → slice_get rows at ≡ Some row → IsBucket row.bucket
  row_valid at row found = valid lane rows h at row found

  -- a bucket stands at one place
  pub place_once : (i k : ℕ) (x y : Row) → slice_get rows i ≡ Some x → slice_get rows k ≡ Some y → x.bucket ≡ y.bucket → i ≡ k
  place_once i k x y at to e = one-place lane rows h i k x y at to (subst (λ (b : Low). has_key b x.bucket.low ≡ true) e (has_low x.bucket (row_valid i x at)))

  -- rows of different places have different numbers
  pub numbers_apart : (i k : ℕ) (x y : Row) → (i ≡ k → ⊥) → slice_get rows i ≡ Some x → slice_get rows k ≡ Some y → number_of x.bucket ≡ number_of y.bucket → ⊥
  numbers_apart i k x y off at to e = off (place_once i k x y at to (number_same x.bucket y.bucket (row_valid i x at) (row_valid k y to) e))

-- ---- one row becomes another

pub set_at_row : (at : ℕ) (f : Row → Row) (rows : List Row) (row : Row) → slice_get rows at ≡ Some row → at_row at f rows ≡ slice_set rows at (f row)
set_at_row at f [] row found = cc
set_at_row zero f (r ∷ rows) row found = ap (λ (q : Row). f q ∷ rows) (same_some (Some r) r row refl found)
set_at_row (suc at) f (r ∷ rows) row found = ap (λ (qs : List Row). r ∷ qs) (set_at_row at f rows row found)

pub get_set_same : {X : Type 0} (xs : List X) (at : ℕ) (x y : X) → slice_get xs at ≡ Some x → slice_get (slice_set xs at y) at ≡ Some y
get_set_same [] at x y found = cc
get_set_same (z ∷ zs) zero x y found = refl
get_set_same (z ∷ zs) (suc at) x y found = get_set_same zs at x y found

pub get_set_other : {X : Type 0} (xs : List X) (at k : ℕ) (y : X) → (k ≡ at → ⊥) → slice_get (slice_set xs at y) k ≡ slice_get xs k
get_set_other [] at k y off = refl
get_set_other (z ∷ zs) zero zero y off = absurd (off refl)
get_set_other (z ∷ zs) zero (suc k) y off = refl
get_set_other (z ∷ zs) (suc at) zero y off = refl
get_set_other (z ∷ zs) (suc at) (suc k) y off = get_set_other zs at k y (λ e. off (ap suc e))

-- it is at the place then, and the others are as they were
pub set_is : {X : Type 0} (xs : List X) (at k : ℕ) (x y z : X) → slice_get xs at ≡ Some x → slice_get (slice_set xs at y) k ≡ Some z → ((k ≡ at) × (z ≡ y)) ⊎ ((k ≡ at → ⊥) × (slice_get xs k ≡ Some z))
set_is xs at k x y z found there = at_or (((k ≡ at) × (z ≡ y)) ⊎ ((k ≡ at → ⊥) × (slice_get xs k ≡ Some z))) k at
    (λ e. inl (e, sym (same_there (slice_set xs at y) k at y z (get_set_same xs at x y found) e there)))
    (λ off. inr (off, sym (get_set_other xs at k y off) ∙ there))

-- a row without a Delete comes for one
pub quiet_set : (rows : List Row) (at : ℕ) (row next : Row) → slice_get rows at ≡ Some row → next.deleting ≡ row.deleting → NoneDeletes rows → NoneDeletes (slice_set rows at next)
quiet_set rows at row next found same none k other there = elim (set_is rows at k row next other found there) [
  | inl e ↦ ap (λ (r : Row). r.deleting) e.1 ∙ (same ∙ none at row found)
  | inr e ↦ none k other e.1
]

pub map_set : {X Y : Type 0} (f g : X → Y) (xs : List X) (at : ℕ) (y : X) → ((k : ℕ) (x : X) → (k ≡ at → ⊥) → slice_get xs k ≡ Some x → g x ≡ f x) → map g (slice_set xs at y) ≡ slice_set (map f xs) at (g y)
map_set f g [] at y same = refl
map_set f g (x ∷ xs) zero y same = ap (λ bs. g y ∷ bs) (same_images g f xs (λ k z found. same (suc k) z (λ (e : suc k ≡ 0). cc) found))
map_set f g (x ∷ xs) (suc at) y same = ap₂ (λ b bs. b ∷ bs) (same 0 x (λ (e : 0 ≡ suc at). cc) refl) (map_set f g xs at y (λ k z off found. same (suc k) z (λ (e : suc k ≡ suc at). off (cc)) found))

-- the rows of the world are the same but for that of the place, where the notes of the other rows stay
pub world_set : (state : ClusterState) (still : ℕ → Node) (before after : BTreeMap ℕ RowNote) (rows : List Row) (at : ℕ) (row : Row)
    → ((k : ℕ) (other : Row) → (k ≡ at → ⊥) → slice_get rows k ≡ Some other → note_for other.bucket after ≡ note_for other.bucket before)
    → map (row_of state still after) (slice_set rows at row) ≡ slice_set (map (row_of state still before) rows) at (row_of state still after row)
world_set state still before after rows at row same = map_set (row_of state still before) (row_of state still after) rows at row
    (λ k other off found. ap (λ (o : Option RowNote). row_by state still (whole_in o) other) (same k other off found))
