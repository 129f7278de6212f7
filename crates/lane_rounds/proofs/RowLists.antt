-- What holds of each row of a list, after rows came, went or changed.
use Rattle.std.proofs.Common.{◌≡◌, ℕ, zero, suc, Bool, true, false, nat_lt, List, [], ◌∷◌, map, cond, Some, refl, subst, slice_get}
use Rattle.std.specs.List.{AllByRecursion, filter, remove}
use Rattle.bucket_ids.specs.Printed.{number_of}
use Rattle.bucket_db.specs.Changes.{with_row, at_row}
use Rattle.bucket_db.specs.declared.row.Row.{Row}

module _ (P : Row → Type 0) where
  pub all-get : (rows : List Row) (at : ℕ) (row : Row) → AllByRecursion P rows → slice_get rows at ≡ Some row → P row
  all-get [] at row h found = cc
  all-get (r ∷ rows) zero row h found = let same : r ≡ row = cc in subst P same h.0
  all-get (r ∷ rows) (suc at) row h found = all-get rows at row h.1 found

  pub all-come : (r : Row) (rows : List Row) → P r → AllByRecursion P rows → AllByRecursion P (with_row r rows)
  all-come r [] p h = (p, tt)
  all-come r (y ∷ ys) p h = by_number (nat_lt (number_of y.bucket) (number_of r.bucket)) (all-come r ys p h.1)
    where
      by_number : (t : Bool) → AllByRecursion P (with_row r ys) → AllByRecursion P (cond t (y ∷ with_row r ys) (r ∷ y ∷ ys))
      by_number true ih = (h.0, ih)
      by_number false ih = (p, h)

  pub all-gone : (rows : List Row) (at : ℕ) → AllByRecursion P rows → AllByRecursion P (remove rows at)
  all-gone [] zero h = tt
  all-gone [] (suc at) h = tt
  all-gone (r ∷ rows) zero h = h.1
  all-gone (r ∷ rows) (suc at) h = (h.0, all-gone rows at h.1)

  pub all-kept : (test : Row → Bool) (rows : List Row) → AllByRecursion P rows → AllByRecursion P (filter test rows)
  all-kept test [] h = tt
  all-kept test (r ∷ rows) h = by_test (test r) (all-kept test rows h.1)
    where
      by_test : (t : Bool) → AllByRecursion P (filter test rows) → AllByRecursion P (cond t (r ∷ filter test rows) (filter test rows))
      by_test true ih = (h.0, ih)
      by_test false ih = ih

  -- the row of a place becomes another
  pub all-at : (change : Row → Row) (rows : List Row) (at : ℕ) → ((row : Row) → slice_get rows at ≡ Some row → P row → P (change row)) → AllByRecursion P rows → AllByRecursion P (at_row at change rows)
  all-at change [] at f h = tt
  all-at change (r ∷ rows) zero f h = (f r refl h.0, h.1)
  all-at change (r ∷ rows) (suc at) f h = (h.0, all-at change rows at f h.1)

  -- and so do all
  pub all-changed : (change : Row → Row) (rows : List Row) → ((row : Row) → P row → P (change row)) → AllByRecursion P rows → AllByRecursion P (map change rows)
  all-changed change [] f h = tt
  all-changed change (r ∷ rows) f h = (f r h.0, all-changed change rows f h.1)
