-- Where a file is damaged.
use Rattle.std.proofs.Common.{◌≡◌, ◌<◌, ◌+◌, ℕ, zero, suc, Bool, true, false, cond, nat_lt, ◌==◌, List, [], ◌∷◌, ◌++◌, length, drop, slice_index, Option, Some, None, Result, Ok, Err, refl, subst, arith}
use Rattle.std.proofs.lemmas.Bool.Decides.{nat_tests}
use Rattle.node_journal.specs.Files.{text_len, text_in, read_in, onto, first_onto, reading, journal_in}

is_one : (b : ℕ) → (b == 1) ≡ true → b ≡ 1
is_one b e = grind (arith, nat_tests)

module _ {M : Type 0} (reads : List ℕ → Option M) where
  -- an open gate stands here, and behind it no whole record that is read
  pub record IsBroken (file : List ℕ) (i : ℕ) : Type 0 where
    pub within : i < length file
    pub gate : slice_index file i ≡ 1
    pub none : read_in reads (text_in (drop (suc i) file)) ≡ None

  abbrev Broken : List ℕ → ℕ → ℕ → Type 0
  Broken file at k = (i : ℕ) × ((k ≡ at + i) × IsBroken file i)

  no_error : (ms : List M) (r : Result (List M) ℕ) (k : ℕ) → r ≡ Ok ms → r ≡ Err k → ⊥
  no_error ms r k ok err = cc

  same_place : (at k : ℕ) (r : Result (List M) ℕ) → r ≡ Err at → r ≡ Err k → at ≡ k
  same_place at k r p q = cc

  behind : (ms : List M) (r : Result (List M) ℕ) (k : ℕ) → onto ms r ≡ Err k → r ≡ Err k
  behind ms (Ok ns) k e = absurd (no_error (ms ++ ns) (onto ms (Ok ns)) k refl e)
  behind ms (Err at) k e = e

  later : (b : ℕ) (bytes : List ℕ) (at k : ℕ) → Broken bytes (at + 1) k → Broken (b ∷ bytes) at k
  later b bytes at k h = (suc h.0, (omega (arith, h.1.0), record { within = omega (arith, h.1.1.within); gate = h.1.1.gate; none = h.1.1.none }))

  module _ (b at k : ℕ) (bytes : List ℕ) (next : reading reads (4 + text_len bytes) (at + 1) bytes ≡ Err k → Broken bytes (at + 1) k) where
    broken : (o : Option M) → b ≡ 1 → read_in reads (text_in bytes) ≡ o → first_onto o at (reading reads (4 + text_len bytes) (at + 1) bytes) ≡ Err k → Broken (b ∷ bytes) at k
    broken None one is e = (0, (omega (arith, same_place at k (Err at) refl e), record { within = omega arith; gate = one; none = is }))
    broken (Some m) one is e = later b bytes at k (next (behind (m ∷ []) (reading reads (4 + text_len bytes) (at + 1) bytes) k e))

    at_gate : (t : Bool) → (b == 1) ≡ t → cond t (first_onto (read_in reads (text_in bytes)) at (reading reads (4 + text_len bytes) (at + 1) bytes)) (Ok []) ≡ Err k → Broken (b ∷ bytes) at k
    at_gate true one e = broken (read_in reads (text_in bytes)) (is_one b one) refl e
    at_gate false other e = absurd (no_error [] (Ok []) k refl e)

  found : (bytes : List ℕ) (skip at k : ℕ) → reading reads skip at bytes ≡ Err k → Broken bytes at k
  unfolding reading
  found [] zero at k e = absurd (no_error [] (Ok []) k refl e)
  found [] (suc s) at k e = absurd (no_error [] (Ok []) k refl e)
  found (b ∷ bytes) zero at k e = at_gate b at k bytes (found bytes (4 + text_len bytes) (at + 1) k) (b == 1) refl e
  found (b ∷ bytes) (suc s) at k e = later b bytes at k (found bytes s (at + 1) k e)

  -- where a file is called damaged it is
  pub damage_in : (file : List ℕ) (at : ℕ) → journal_in reads file ≡ Err at → IsBroken file at
  unfolding journal_in
  damage_in file at e = by (nat_lt (length file) 6) e
    where
      by : (t : Bool) → cond t (Ok []) (reading reads 0 0 file) ≡ Err at → IsBroken file at
      by true e = absurd (no_error [] (Ok []) at refl e)
      by false e = let h = found file 0 0 at e in let same : h.0 ≡ at = omega (arith, h.1.0) in subst (IsBroken file) same h.1.1
