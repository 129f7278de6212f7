-- Where the rows of so many bits begin, as in the abstract.
use Rattle.std.proofs.Common.{◌≡◌, ◌∙◌, ◌<◌, ◌≤◌, ℕ, zero, suc, ◌+◌, Bool, true, false, cond, List, [], ◌∷◌, Some, None, length, get_or, slice_get, refl, sym, ap, subst, arith, nat_lt}
use Rattle.std.proofs.lemmas.Bool.Decides.{nat_tests}
use Rattle.bucket_ids.specs.Buckets.{Low}
use Rattle.bucket_db.specs.Rows.{AreRows, buckets_of}
use Rattle.bucket_db.specs.declared.row.Row.{Row}
use Rattle.proof_basics.proofs.Lists.{count_cons}
use Rattle.pass_model.specs.Rows as rest
use Rattle.pass_model.specs.Sweeps.{fewer}
use Rattle.pass_machine.specs.Places.{first_with}
use Rattle.pass_machine.specs.Abstract.{AreOfBuckets}
use Rattle.pass_machine.proofs.Rising.{bits_rise}

abbrev BitsRise : ℕ → List Row → Type 0
BitsRise least [] = Unit {0}
BitsRise least (r ∷ rs) = (least ≤ r.bucket.bits) × BitsRise r.bucket.bits rs

abbrev some_row : Row
some_row = record { bucket = record { bits = 0; low = 0 }; complete = 0; active = None; accepted = false; deleting = None }

-- by recursion, what is said by place
rise-by : (least : ℕ) (xs : List Row) → ((j : ℕ) → j < length xs → least ≤ (get_or xs j some_row).bucket.bits)
    → ((i j : ℕ) → i ≤ j → j < length xs → (get_or xs i some_row).bucket.bits ≤ (get_or xs j some_row).bucket.bits) → BitsRise least xs
rise-by least [] h g = tt
rise-by least (x ∷ xs) h g = (
  h 0 (omega arith),
  rise-by x.bucket.bits xs
      (λ j less. let up : suc j < suc (length xs) = omega (arith, less) in let le : 0 ≤ suc j = omega arith in g 0 (suc j) le up)
      (λ i j le less. let up : suc j < suc (length xs) = omega (arith, less) in let more : suc i ≤ suc j = omega (arith, le) in g (suc i) (suc j) more up),
)

zero-plus : (n : ℕ) → 0 + n ≡ n
zero-plus n = omega arith

less-no : (m n : ℕ) → n ≤ m → nat_lt m n ≡ false
less-no m n h = grind (arith, nat_tests)

none-fewer : (bits least : ℕ) (rows : List Row) (rs : List rest.Row) → AreOfBuckets rows rs → BitsRise least rows → bits ≤ least → fewer bits rs ≡ 0
none-fewer bits least [] [] are rise h = refl
none-fewer bits least (x ∷ xs) (r ∷ rs) (same, are) (up, rise) h =
    let most : bits ≤ x.bucket.bits = omega (arith, h, up) in
    let test : nat_lt r.bucket.bits bits ≡ false = subst (λ (b : Low). nat_lt b.bits bits ≡ false) same (less-no x.bucket.bits bits most) in
    count_cons (λ (q : rest.Row). nat_lt q.bucket.bits bits) r rs ∙ (ap (λ (t : Bool). cond t 1 0 + fewer bits rs) test ∙ (zero-plus (fewer bits rs) ∙ none-fewer bits x.bucket.bits xs rs are rise most))
none-fewer bits least [] (r ∷ rs) are rise h = absurd are
none-fewer bits least (x ∷ xs) [] are rise h = absurd are

first-fewer : (bits least : ℕ) (rows : List Row) (rs : List rest.Row) → AreOfBuckets rows rs → BitsRise least rows → first_with bits rows ≡ fewer bits rs
first-fewer bits least [] [] are rise = refl
first-fewer bits least (x ∷ xs) (r ∷ rs) (same, are) (up, rise) =
    by_test (nat_lt x.bucket.bits bits) refl (first-fewer bits x.bucket.bits xs rs are rise) ∙ sym (count_cons (λ (q : rest.Row). nat_lt q.bucket.bits bits) r rs)
  where
    by_test : (t : Bool) → nat_lt x.bucket.bits bits ≡ t → first_with bits xs ≡ fewer bits rs → cond (nat_lt x.bucket.bits bits) (1 + first_with bits xs) 0 ≡ cond (nat_lt r.bucket.bits bits) 1 0 + fewer bits rs
    by_test true e f =
        ap (λ (t : Bool). cond t (1 + first_with bits xs) 0) e
        ∙ (ap (λ (k : ℕ). 1 + k) f ∙ sym (ap (λ (t : Bool). cond t 1 0 + fewer bits rs) (ap (λ (b : Low). nat_lt b.bits bits) (sym same) ∙ e)))
    by_test false e f =
        let most : bits ≤ x.bucket.bits = grind (arith, nat_tests) in
        ap (λ (t : Bool). cond t (1 + first_with bits xs) 0) e
        ∙ sym (ap (λ (t : Bool). cond t 1 0 + fewer bits rs) (ap (λ (b : Low). nat_lt b.bits bits) (sym same) ∙ e) ∙ (zero-plus (fewer bits rs) ∙ none-fewer bits x.bucket.bits xs rs are rise most))
first-fewer bits least [] (r ∷ rs) are rise = absurd are
first-fewer bits least (x ∷ xs) [] are rise = absurd are

pub levels_same : (lane : Low) (bits : ℕ) (rows : List Row) (rs : List rest.Row) → AreRows lane (buckets_of rows) → AreOfBuckets rows rs → first_with bits rows ≡ fewer bits rs
levels_same lane bits rows rs h are =
    first-fewer bits 0 rows rs are (rise-by 0 rows (λ j less. omega arith) (λ i j le less. bits_rise lane rows h i j some_row le less))

-- ---- a row stands before those of more bits just if it has no more

least-at : (least : ℕ) (rows : List Row) → BitsRise least rows → (at : ℕ) (row : Row) → slice_get rows at ≡ Some row → least ≤ row.bucket.bits
least-at least [] rise at row h = cc
least-at least (x ∷ xs) (up, rise) zero row h = let same : x ≡ row = cc in subst (λ (r : Row). least ≤ r.bucket.bits) same up
least-at least (x ∷ xs) (up, rise) (suc at) row h = let le = least-at x.bucket.bits xs rise at row h in omega (arith, up, le)

level-at : (m least : ℕ) (rows : List Row) → BitsRise least rows → (at : ℕ) (row : Row) → slice_get rows at ≡ Some row → nat_lt at (first_with m rows) ≡ nat_lt row.bucket.bits m
level-at m least [] rise at row h = cc
level-at m least (x ∷ xs) (up, rise) zero row h = let same : x ≡ row = cc in by_test (nat_lt x.bucket.bits m) ∙ ap (λ (r : Row). nat_lt r.bucket.bits m) same
  where
    by_test : (t : Bool) → nat_lt 0 (cond t (1 + first_with m xs) 0) ≡ t
    by_test true = grind (arith, nat_tests)
    by_test false = grind (arith, nat_tests)
level-at m least (x ∷ xs) (up, rise) (suc at) row h = by_test (nat_lt x.bucket.bits m) refl (level-at m x.bucket.bits xs rise at row h) (least-at x.bucket.bits xs rise at row h)
  where
    by_test : (t : Bool) → nat_lt x.bucket.bits m ≡ t → nat_lt at (first_with m xs) ≡ nat_lt row.bucket.bits m → x.bucket.bits ≤ row.bucket.bits → nat_lt (suc at) (cond (nat_lt x.bucket.bits m) (1 + first_with m xs) 0) ≡ nat_lt row.bucket.bits m
    by_test true e f le = ap (λ (t : Bool). nat_lt (suc at) (cond t (1 + first_with m xs) 0)) e ∙ (shifted at (first_with m xs) ∙ f)
      where
        shifted : (a b : ℕ) → nat_lt (suc a) (1 + b) ≡ nat_lt a b
        shifted a b = grind (arith, nat_tests)
    by_test false e f le = ap (λ (t : Bool). nat_lt (suc at) (cond t (1 + first_with m xs) 0)) e ∙ (less-no (suc at) 0 (omega arith) ∙ sym (less-no row.bucket.bits m (let most = no-less x.bucket.bits m e in omega (arith, most, le))))
      where
        no-less : (a b : ℕ) → nat_lt a b ≡ false → b ≤ a
        no-less a b h = grind (arith, nat_tests)

pub level_of : (lane : Low) (bits : ℕ) (rows : List Row) (rs : List rest.Row) → AreRows lane (buckets_of rows) → AreOfBuckets rows rs → (at : ℕ) (row : Row) → slice_get rows at ≡ Some row → nat_lt at (fewer bits rs) ≡ nat_lt row.bucket.bits bits
level_of lane bits rows rs h are at row found =
    ap (λ (k : ℕ). nat_lt at k) (sym (levels_same lane bits rows rs h are))
    ∙ level-at bits 0 rows (rise-by 0 rows (λ j less. omega arith) (λ i j le less. bits_rise lane rows h i j some_row le less)) at row found
