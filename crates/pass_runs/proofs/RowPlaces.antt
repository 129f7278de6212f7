-- Rows in rising number: where one stands, and what else is there where one comes.
use Rattle.std.proofs.Common.{◌≡◌, ◌∙◌, ◌⊎◌, inl, inr, ◌<◌, ◌≤◌, ◌+◌, ℕ, zero, suc, Bool, true, false, cond, List, [], ◌∷◌, length, Some, refl, sym, ap, subst, arith, nat_lt, slice_get, get_or}
use Rattle.std.specs.List.{prefix_len}
use Rattle.std.proofs.lemmas.Bool.{cases_lt}
use Rattle.std.proofs.lemmas.Option.{slice_get_within, get_or_from_slice_get}
use Rattle.bucket_ids.specs.Buckets.{Low}
use Rattle.bucket_ids.specs.Printed.{number_of}
use Rattle.bucket_db.specs.Changes.{placed}
use Rattle.bucket_db.specs.Rows.{AreRows, buckets_of}
use Rattle.bucket_db.specs.declared.row.Row.{Row}
use Rattle.bucket_db.proofs.RowLists.{rows_rise, rises_of_rising}
use Rattle.proof_basics.proofs.Numbers.{lt-to, ge-to}
use Rattle.pass_machine.specs.Places.{place_of}
use Rattle.pass_runs.specs.Standing.{IsRow}
use Rattle.pass_runs.proofs.Rows.{numbers_apart}

-- ---- one that comes

module _ {X : Type 0} (number : X → ℕ) (x : X) where
  pub placed_own : (xs : List X) → (k : ℕ) × (slice_get (placed number x xs) k ≡ Some x)
  placed_own [] = (0, refl)
  placed_own (y ∷ ys) = by_test (nat_lt (number y) (number x)) (placed_own ys)
    where
      by_test : (t : Bool) → ((k : ℕ) × (slice_get (placed number x ys) k ≡ Some x)) → (k : ℕ) × (slice_get (cond t (y ∷ placed number x ys) (x ∷ y ∷ ys)) k ≡ Some x)
      by_test true h = (suc h.0, h.1)
      by_test false h = (0, refl)

  -- what stands there then is that one, or stood there before
  pub placed_at : (xs : List X) (k : ℕ) (z : X) → slice_get (placed number x xs) k ≡ Some z → (z ≡ x) ⊎ ((j : ℕ) × (slice_get xs j ≡ Some z))
  placed_at [] zero z h = inl (cc)
  placed_at [] (suc k) z h = cc
  placed_at (y ∷ ys) k z h = by_test (nat_lt (number y) (number x)) k h (λ j. placed_at ys j z)
    where
      by_test : (t : Bool) (k : ℕ) → slice_get (cond t (y ∷ placed number x ys) (x ∷ y ∷ ys)) k ≡ Some z → ((j : ℕ) → slice_get (placed number x ys) j ≡ Some z → (z ≡ x) ⊎ ((i : ℕ) × (slice_get ys i ≡ Some z)))
          → (z ≡ x) ⊎ ((i : ℕ) × (slice_get (y ∷ ys) i ≡ Some z))
      by_test true zero e ih = inr (0, e)
      by_test true (suc j) e ih = elim (ih j e) [ inl same ↦ inl same | inr there ↦ inr (suc there.0, there.1) ]
      by_test false zero e ih = inl (cc)
      by_test false (suc j) e ih = inr (j, e)

  pub placed_keeps : (xs : List X) (k : ℕ) (z : X) → slice_get xs k ≡ Some z → (j : ℕ) × (slice_get (placed number x xs) j ≡ Some z)
  placed_keeps [] k z h = cc
  placed_keeps (y ∷ ys) k z h = by_test (nat_lt (number y) (number x)) k h (λ j. placed_keeps ys j z)
    where
      by_test : (t : Bool) (k : ℕ) → slice_get (y ∷ ys) k ≡ Some z → ((j : ℕ) → slice_get ys j ≡ Some z → (i : ℕ) × (slice_get (placed number x ys) i ≡ Some z)) → (i : ℕ) × (slice_get (cond t (y ∷ placed number x ys) (x ∷ y ∷ ys)) i ≡ Some z)
      by_test true zero e ih = (0, e)
      by_test true (suc j) e ih = let there = ih j e in (suc there.0, there.1)
      by_test false j e ih = (suc j, e)

  pub placed_length : (xs : List X) → length (placed number x xs) ≡ suc (length xs)
  placed_length [] = refl
  placed_length (y ∷ ys) = by_test (nat_lt (number y) (number x)) (placed_length ys)
    where
      by_test : (t : Bool) → length (placed number x ys) ≡ suc (length ys) → length (cond t (y ∷ placed number x ys) (x ∷ y ∷ ys)) ≡ suc (suc (length ys))
      by_test true e = ap suc e
      by_test false e = refl

-- ---- where the row of a bucket stands

place-by : (n : ℕ) (rows : List Row) (at : ℕ) (row : Row) → slice_get rows at ≡ Some row → nat_lt (number_of row.bucket) n ≡ false
    → ((k : ℕ) (z : Row) → k < at → slice_get rows k ≡ Some z → nat_lt (number_of z.bucket) n ≡ true) → prefix_len (λ (r : Row). nat_lt (number_of r.bucket) n) rows ≡ at
place-by n [] at row found ends below = cc
place-by n (x ∷ xs) zero row found ends below =
    let same : row ≡ x = cc in
    ap (λ (t : Bool). cond t (1 + prefix_len (λ (r : Row). nat_lt (number_of r.bucket) n) xs) 0) (ap (λ (r : Row). nat_lt (number_of r.bucket) n) (sym same) ∙ ends)
place-by n (x ∷ xs) (suc at) row found ends below =
    let many : ℕ = prefix_len (λ (r : Row). nat_lt (number_of r.bucket) n) xs in
    let one : 1 + many ≡ suc many = omega arith in
    let first : 0 < suc at = omega arith in
    ap (λ (t : Bool). cond t (1 + many) 0) (below 0 x first refl)
    ∙ (one ∙ ap suc (place-by n xs at row found ends (λ k z less e. let later : suc k < suc at = omega (arith, less) in below (suc k) z later e)))

module _ (lane : Low) (rows : List Row) (h : AreRows lane (buckets_of rows)) where
  pub number_rises : (i k : ℕ) (x y : Row) → slice_get rows i ≡ Some x → slice_get rows k ≡ Some y → i ≤ k → number_of x.bucket ≤ number_of y.bucket
  number_rises i k x y at to le =
      subst (λ (r : Row). number_of r.bucket ≤ number_of y.bucket) (get_or_from_slice_get rows i x x at)
      (subst (λ (r : Row). number_of (get_or rows i x).bucket ≤ number_of r.bucket) (get_or_from_slice_get rows k y x to)
      (rows_rise rows (rises_of_rising (buckets_of rows) h.rising) i k x le (slice_get_within rows k y to)))

  number-below : (i k : ℕ) (x y : Row) → slice_get rows i ≡ Some x → slice_get rows k ≡ Some y → i < k → number_of x.bucket < number_of y.bucket
  number-below i k x y at to less = by_order (cases_lt (number_of x.bucket) (number_of y.bucket))
    where
      by_order : (number_of x.bucket < number_of y.bucket) ⊎ (number_of y.bucket ≤ number_of x.bucket) → number_of x.bucket < number_of y.bucket
      by_order (inl lt) = lt
      by_order (inr ge) =
          let le : i ≤ k = omega (arith, less) in
          let up = number_rises i k x y at to le in
          let same : number_of x.bucket ≡ number_of y.bucket = omega (arith, ge, up) in
          let off : i ≡ k → ⊥ = λ (e : i ≡ k). omega (arith, e, less) in
          absurd (numbers_apart lane rows h i k x y off at to same)

  pub place_found : (at : ℕ) (row : Row) → slice_get rows at ≡ Some row → place_of row.bucket rows ≡ at
  place_found at row found =
      let own : number_of row.bucket ≤ number_of row.bucket = omega arith in
      place-by (number_of row.bucket) rows at row found (ge-to (number_of row.bucket) (number_of row.bucket) own)
      (λ k z less e. lt-to (number_of z.bucket) (number_of row.bucket) (number-below k at z row e found less))

-- a row of the bucket stands there
pub row_there : (b : Low) (rows : List Row) (lane : Low) → AreRows lane (buckets_of rows) → (there : IsRow b rows) → slice_get rows (place_of b rows) ≡ Some there.1
row_there b rows lane h (at, row, found, same) =
    subst (λ (c : Low). slice_get rows (place_of c rows) ≡ Some row) same (ap (λ (k : ℕ). slice_get rows k) (place_found lane rows h at row found) ∙ found)

pub bucket_there : (b : Low) (rows : List Row) (lane : Low) → AreRows lane (buckets_of rows) → IsRow b rows → (row : Row) → slice_get rows (place_of b rows) ≡ Some row → row.bucket ≡ b
bucket_there b rows lane h there row found =
    let twice : Some row ≡ Some there.1 = sym found ∙ row_there b rows lane h there in
    let same : row ≡ there.1 = cc in
    ap (λ (r : Row). r.bucket) same ∙ there.3
