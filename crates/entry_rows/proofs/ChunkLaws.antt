-- Where slots stand in rows.
use Rattle.std.proofs.Common.{◌≡◌, ◌≢◌, ℕ, suc, ◌+◌, ◌-◌, ◌<◌, ◌≤◌, Bool, true, false, List, [], ◌∷◌, length, get_or, take, refl, sym, ap, ◌∙◌, arith, inl, inr}
use Rattle.std.specs.List.{flat_map, All, AllWithin}
use Rattle.std.specs.List.Sorted.{IsPartitionedBy}
use Rattle.std.proofs.lemmas.Bool.{cases_order}
use Rattle.std.proofs.lemmas.List.{take_all}
use Rattle.std.proofs.lemmas.List.Concat.{get_or-flat_map}
use Rattle.entry_rows.specs.declared.slots.Slot.{Slot}
use Rattle.entry_rows.specs.declared.chunks.Chunks.{Chunks}
use Rattle.entry_rows.specs.declared.chunks.Spot.{Spot}
use Rattle.entry_rows.specs.Chunks.{begins, flat, place, IsSeat}
use Rattle.entry_rows.proofs.ChunkLists.{element, before_le, next_row, row_within}

-- what a row begins with is its first slot
begins_is : (test : Slot → Bool) (xs : List Slot) (d : Slot) → 0 < length xs → begins test xs ≡ test (get_or xs 0 d)
begins_is test [] d some = absurd (omega arith)
begins_is test (x ∷ xs) d some = refl

pub fails : (b : Bool) → (b ≡ true → ⊥) → b ≡ false
fails true h = absurd (h refl)
fails false h = refl

true_false : (b : Bool) → b ≡ true → b ≡ false → ⊥
true_false true p q = cc
true_false false p q = cc

module _ {R : Type 0} (f : R → List Slot) (rs : List R) (some : All (λ r. 0 < length (f r)) rs) (test : Slot → Bool) (whole : IsPartitionedBy test (flat_map f rs)) where
  -- where a row begins
  abbrev pub start : ℕ → ℕ
  start i = length (flat_map f (take i rs))

  start_lt : (i : ℕ) (e : R) → i < length rs → start i < length (flat_map f rs)
  start_lt i e lt = omega (arith, row_within f rs i e lt, some i e lt)

  head_is : (i : ℕ) (e : R) (d : Slot) → i < length rs → get_or (flat_map f rs) (start i) d ≡ get_or (f (get_or rs i e)) 0 d
  head_is i e d lt = ap (λ k. get_or (flat_map f rs) k d) (omega arith) ∙ get_or-flat_map f rs i 0 e d lt (some i e lt)

  begins_there : (i : ℕ) (e : R) (d : Slot) → i < length rs → begins test (f (get_or rs i e)) ≡ test (get_or (flat_map f rs) (start i) d)
  begins_there i e d lt = begins_is test (f (get_or rs i e)) d (some i e lt) ∙ ap test (sym (head_is i e d lt))

  slot_of : (i : ℕ) (e : R) → i < length rs → Slot
  slot_of i e lt = first (f (get_or rs i e)) (some i e lt)
    where
      first : (xs : List Slot) → 0 < length xs → Slot
      first [] lt = absurd (omega arith)
      first (x ∷ xs) lt = x

  pub rows_parted : IsPartitionedBy (λ r. begins test (f r)) rs
  rows_parted i j e le lt passes =
      let d = slot_of j e lt in
      begins_there i e d (omega arith) ∙ whole (start i) (start j) d (before_le f rs i j le) (start_lt j e lt) (sym (begins_there j e d lt) ∙ passes)

  -- a row's own slots are parted
  pub row_parted : (i : ℕ) (e : R) → i < length rs → IsPartitionedBy test (f (get_or rs i e))
  row_parted i e lt a b d le high passes =
      ap test (sym (get_or-flat_map f rs i a e d lt (omega arith)))
      ∙ whole (start i + a) (start i + b) d (omega arith) (omega (arith, row_within f rs i e lt)) (ap test (get_or-flat_map f rs i b e d lt high) ∙ passes)

  -- from a row on that doesn't begin with such a slot there is none
  pub from_row : (j : ℕ) (e : R) → j < length rs → begins test (f (get_or rs j e)) ≡ false → AllWithin (λ s. test s ≡ false) (flat_map f rs) (start j) (length (flat_map f rs))
  from_row j e lt above k d low high = fails _ (λ passes. true_false _ (begins_there j e d lt ∙ whole (start j) k d low high passes) above)

  -- where no row begins with such a slot
  pub from_start : All (λ r. begins test (f r) ≡ false) rs → AllWithin (λ s. test s ≡ false) (flat_map f rs) 0 (length (flat_map f rs))
  from_start none k d low high = at_rows rs refl
    where
      at_rows : (qs : List R) → qs ≡ rs → test (get_or (flat_map f rs) k d) ≡ false
      at_rows [] is = absurd (omega (arith, ap (λ l. length (flat_map f l)) is))
      at_rows (e ∷ qs) is = from_row 0 e (omega (arith, ap length is)) (none 0 e (omega (arith, ap length is))) k d (omega arith) high

  -- the first slot that fails stands in the last row that begins with one that passes
  module _ (i n : ℕ) (e : R) (lt : i < length rs) (le : n ≤ length (f (get_or rs i e))) (passes : begins test (f (get_or rs i e)) ≡ true)
      (low : AllWithin (λ s. test s ≡ true) (f (get_or rs i e)) 0 n) (high : AllWithin (λ s. test s ≡ false) (f (get_or rs i e)) n (length (f (get_or rs i e))))
      (next : suc i < length rs → begins test (f (get_or rs (suc i) e)) ≡ false) where
    inner : (k : ℕ) (d : Slot) → start i ≤ k → k < start i + length (f (get_or rs i e)) → get_or (flat_map f rs) k d ≡ get_or (f (get_or rs i e)) (k - start i) d
    inner k d from to = ap (λ m. get_or (flat_map f rs) m d) (omega arith) ∙ get_or-flat_map f rs i (k - start i) e d lt (omega arith)

    pub parted_before : AllWithin (λ s. test s ≡ true) (flat_map f rs) 0 (start i + n)
    parted_before k d from to = elim (cases_order (start i) k) [
      | inl same ↦ whole k (start i) d (omega (arith, same)) (start_lt i e lt) (sym (begins_there i e d lt) ∙ passes)
      | inr o ↦ elim o [
        | inl past ↦ ap test (inner k d (omega arith) (omega arith)) ∙ low (k - start i) d (omega arith) (omega arith)
        | inr below ↦ whole k (start i) d (omega arith) (start_lt i e lt) (sym (begins_there i e d lt) ∙ passes)
      ]
    ]

    behind : (k : ℕ) (d : Slot) → start (suc i) ≤ k → k < length (flat_map f rs) → test (get_or (flat_map f rs) k d) ≡ false
    behind k d from to = elim (cases_order (suc i) (length rs)) [
      | inl e1 ↦ absurd (omega (arith, ap (λ l. length (flat_map f l)) (take_all (suc i) rs (omega (arith, e1)))))
      | inr o ↦ elim o [
        | inl below ↦ from_row (suc i) e below (next below) k d from to
        | inr past ↦ absurd (omega arith)
      ]
    ]

    pub parted_from : AllWithin (λ s. test s ≡ false) (flat_map f rs) (start i + n) (length (flat_map f rs))
    parted_from k d from to = elim (cases_order k (start (suc i))) [
      | inl e1 ↦ behind k d (omega (arith, e1)) to
      | inr o ↦ elim o [
        | inl below ↦
            let in_row : k < start i + length (f (get_or rs i e)) = omega (arith, next_row f rs i e lt) in
            ap test (inner k d (omega arith) in_row) ∙ high (k - start i) d (omega arith) (omega arith)
        | inr past ↦ behind k d (omega arith) to
      ]
    ]

-- a seat below the end is in a row
pub seat_row : (c : Chunks) (seat : Spot) → IsSeat c seat → place c seat < length (flat c) → seat.row < length c.rows.items
seat_row c seat is lt = elim (cases_order seat.row (length c.rows.items)) [
  | inl e ↦ absurd (omega (arith, is.last e, ap (λ l. length (flat_map (λ r. r.items) l)) (take_all seat.row c.rows.items (omega (arith, e)))))
  | inr o ↦ elim o [ inl below ↦ below | inr past ↦ absurd (omega (arith, is.within)) ]
]

-- a seat that stands no higher than one of another row stands in an earlier row
pub rows_rise : (c : Chunks) (from to : Spot) → IsSeat c to → place c from ≤ place c to → to.row < length c.rows.items → from.row < length c.rows.items → from.row ≢ to.row → from.row < to.row
rows_rise c from to seat le lt within other = elim (cases_order from.row to.row) [
  | inl e ↦ absurd (other e)
  | inr o ↦ elim o [
    | inl below ↦ below
    | inr past ↦
        let d = element c.rows.items to.row lt in
        absurd (omega (arith, le, seat.row lt d, next_row (λ r. r.items) c.rows.items to.row d lt, before_le (λ r. r.items) c.rows.items (suc to.row) from.row (omega arith)))
  ]
]
