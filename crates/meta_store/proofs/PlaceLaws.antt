-- Where a rising list first stands apart from 0, 1, 2 and so on.
use Rattle.std.proofs.Common.{◌≡◌, ◌≢◌, ℕ, zero, suc, ◌+◌, ◌-◌, ◌/◌, ◌<◌, ◌≤◌, Bool, true, false, nat_lt, refl, List, [], ◌∷◌, length, get_or, subst, ◌∙◌, arith}
use Rattle.std.specs.List.{Contains}
use Rattle.std.proofs.lemmas.List.{get_or_default}
use Rattle.proof_basics.proofs.Numbers.{lt-of, ge-of}
use Rattle.local_ids.specs.Rising.{IsRising}
use Rattle.local_ids.proofs.RisingLaws.{rises}

-- each step up is one at least
grows : (xs : List ℕ) → IsRising xs → (i j d : ℕ) → i ≤ j → j < length xs → get_or xs i d + j ≤ get_or xs j d + i
grows [] h i j d le lt = absurd (omega arith)
grows (x ∷ xs) h zero zero d le lt = omega arith
grows (x ∷ []) h zero (suc j) d le lt = absurd (omega (arith, lt))
grows (x ∷ y ∷ xs) h zero (suc j) d le lt =
    (let a = h.0.0 in let b = grows (y ∷ xs) h.1 0 j d (omega arith) (omega (arith, lt)) in omega (arith, a, b))
grows (x ∷ xs) h (suc i) zero d le lt = absurd (omega (arith, le))
grows (x ∷ xs) h (suc i) (suc j) d le lt = (let a = grows xs h.1 i j d (omega (arith, le)) (omega (arith, lt)) in omega (arith, a))

pub next_low : (xs : List ℕ) → IsRising xs → (m : ℕ) → m < length xs → get_or xs m 0 ≡ m → (k : ℕ) → k < m + 1 → get_or xs k 0 ≡ k
next_low xs h m lt e k l =
    (let up = grows xs h k m 0 (omega (arith, l)) lt in let low = grows xs h 0 k 0 (omega arith) (omega (arith, l, lt)) in omega (arith, up, low, e))

pub next_high : (xs : List ℕ) → IsRising xs → (m : ℕ) → m < length xs → get_or xs m 0 ≢ m → m < get_or xs m 0
next_high xs h m lt f = by_order (grows xs h 0 m 0 (omega arith) lt)
  where
    by_order : get_or xs 0 0 + m ≤ get_or xs m 0 + 0 → m < get_or xs m 0
    by_order low = omega (arith, low, f)

pub free_at : (xs : List ℕ) → IsRising xs → (n : ℕ) → ((k : ℕ) → k < n → get_or xs k 0 ≡ k) → (n < length xs → n < get_or xs n 0) → Contains xs n → ⊥
free_at xs h n low high c = by_place (nat_lt c.0 n) refl
  where
    here : get_or xs c.0 0 ≡ n
    here = get_or_default xs c.0 0 n c.1 ∙ c.2

    by_place : (t : Bool) → nat_lt c.0 n ≡ t → ⊥
    by_place true e = (let less = lt-of c.0 n e in let own = low c.0 less in omega (arith, less, own, here))
    by_place false e =
        (let le = ge-of c.0 n e in let up = high (let l = c.1 in omega (arith, le, l)) in
        let far = rises xs h n c.0 0 le c.1 in omega (arith, up, far, here))

pub taken_below : (xs : List ℕ) (n : ℕ) → n ≤ length xs → ((k : ℕ) → k < n → get_or xs k 0 ≡ k) → (k : ℕ) → k < n → Contains xs k
taken_below xs n w low k l = (k, omega (arith, l, w), get_or_default xs k k 0 (omega (arith, l, w)) ∙ low k l)

-- ---- the search

-- the place lies from low to high
abbrev pub Between : List ℕ → ℕ → ℕ → Type 0
Between xs low high = (low ≤ high) × (high ≤ length xs) × ((k : ℕ) → k < low → get_or xs k 0 ≡ k) × (high < length xs → high < get_or xs high 0)

half_below : (low high : ℕ) → low < high → low + (high - low) / 2 + 1 ≤ high
half_below low high l = omega (arith, l)

pub step_low : (xs : List ℕ) → IsRising xs → (low high : ℕ) → low < high → Between xs low high → get_or xs (low + (high - low) / 2) 0 ≡ low + (high - low) / 2 → Between xs (low + (high - low) / 2 + 1) high
step_low xs h low high l i e = (half_below low high l, i.1, next_low xs h (low + (high - low) / 2) (let a = half_below low high l in let b = i.1 in omega (arith, a, b)) e, i.3)

pub step_high : (xs : List ℕ) → IsRising xs → (low high : ℕ) → low < high → Between xs low high → get_or xs (low + (high - low) / 2) 0 ≢ low + (high - low) / 2 → Between xs low (low + (high - low) / 2)
step_high xs h low high l i f =
    let less : low + (high - low) / 2 < length xs = (let a = half_below low high l in let b = i.1 in omega (arith, a, b)) in
    (omega arith, omega (arith, less), i.2, λ _. next_high xs h (low + (high - low) / 2) less f)

pub end_free : (xs : List ℕ) → IsRising xs → (low high : ℕ) → high ≤ low → Between xs low high → Contains xs low → ⊥
end_free xs h low high l i =
    let same : high ≡ low = (let a = i.0 in omega (arith, a, l)) in
    free_at xs h low i.2 (subst (λ n. n < length xs → n < get_or xs n 0) same i.3)
