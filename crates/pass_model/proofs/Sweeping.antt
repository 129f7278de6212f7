-- Rows in rising number, and rows that come and go among them.
use Rattle.std.proofs.Common.{◌≡◌, ℕ, zero, suc, ◌+◌, ◌<◌, ◌≤◌, Bool, true, false, nat_lt, List, [], ◌∷◌, length, cond, Some, inl, inr, refl, sym, ap, ◌∙◌, subst, slice_get, arith}
use Rattle.std.specs.List.{remove}
use Rattle.std.proofs.lemmas.Bool.Decides.{nat_tests}
use Rattle.bucket_ids.specs.Buckets.{IsBucket}
use Rattle.bucket_ids.specs.Printed.{number_of}
use Rattle.proof_basics.proofs.Lists.{one_if, count_cons}
use Rattle.bucket_db.proofs.Inside.{number_bits}
use Rattle.pass_model.specs.Rows.{Row}
use Rattle.pass_model.specs.Passes.{AllRows, Among}
use Rattle.pass_model.specs.Sweeps.{Rises, with_row, fewer, Before}

-- ---- rows of a list

pub among-removed : (rows : List Row) (at : ℕ) (r : Row) → slice_get rows at ≡ Some r → Among r rows (remove rows at)
among-removed [] at r h = cc
among-removed (q ∷ qs) zero r h = let same : q ≡ r = cc in by_rest qs (sym same)
  where
    by_rest : (xs : List Row) → r ≡ q → Among r (q ∷ xs) xs
    by_rest [] e = (e, refl)
    by_rest (x ∷ xs) e = inl (e, refl)
among-removed (q ∷ qs) (suc at) r h = inr (refl, among-removed qs at r h)

pub among-placed : (x : Row) (rows : List Row) → Among x (with_row x rows) rows
among-placed x [] = (refl, refl)
among-placed x (y ∷ ys) = by_test (nat_lt (number_of y.bucket) (number_of x.bucket)) (among-placed x ys)
  where
    by_test : (t : Bool) → Among x (with_row x ys) ys → Among x (cond t (y ∷ with_row x ys) (x ∷ y ∷ ys)) (y ∷ ys)
    by_test true ih = inr (refl, ih)
    by_test false ih = inl (refl, refl)

-- ---- rows before a place

pub before-next : (Q : Row → Type 0) (at : ℕ) (rows : List Row) (r : Row) → slice_get rows at ≡ Some r → Q r → Before Q at rows → Before Q (suc at) rows
before-next Q at [] r h q b = cc
before-next Q zero (x ∷ rs) r h q b = let same : x ≡ r = cc in (subst Q (sym same) q, tt)
before-next Q (suc at) (x ∷ rs) r h q b = (b.0, before-next Q at rs r h q b.1)

pub before-mono : (Q P : Row → Type 0) → ((r : Row) → Q r → P r) → (at : ℕ) (rows : List Row) → Before Q at rows → Before P at rows
before-mono Q P f zero rows b = tt
before-mono Q P f (suc at) [] b = tt
before-mono Q P f (suc at) (r ∷ rs) b = (f r b.0, before-mono Q P f at rs b.1)

pub before-removed : (Q : Row → Type 0) (at : ℕ) (rows : List Row) → Before Q at rows → Before Q at (remove rows at)
before-removed Q zero rows b = tt
before-removed Q (suc at) [] b = tt
before-removed Q (suc at) (r ∷ rs) b = (b.0, before-removed Q at rs b.1)

pub before-placed : (Q : Row → Type 0) (x : Row) (at : ℕ) (rows : List Row) → at ≤ length rows → Before (λ r. number_of r.bucket < number_of x.bucket) at rows → Before Q at rows → Before Q at (with_row x rows)
before-placed Q x zero rows le less b = tt
before-placed Q x (suc at) [] le less b = absurd (omega arith)
before-placed Q x (suc at) (y ∷ ys) le less b = by_test (nat_lt (number_of y.bucket) (number_of x.bucket)) (lt (number_of y.bucket) (number_of x.bucket) less.0) (before-placed Q x at ys (omega arith) less.1 b.1)
  where
    lt : (m n : ℕ) → m < n → nat_lt m n ≡ true
    lt m n h = grind (arith, nat_tests)

    by_test : (t : Bool) → t ≡ true → Before Q at (with_row x ys) → Before Q (suc at) (cond t (y ∷ with_row x ys) (x ∷ y ∷ ys))
    by_test true e ih = (b.0, ih)
    by_test false e ih = cc

pub length-placed : (x : Row) (rows : List Row) → length (with_row x rows) ≡ suc (length rows)
length-placed x [] = refl
length-placed x (y ∷ ys) = by_test (nat_lt (number_of y.bucket) (number_of x.bucket)) (length-placed x ys)
  where
    by_test : (t : Bool) → length (with_row x ys) ≡ suc (length ys) → length (cond t (y ∷ with_row x ys) (x ∷ y ∷ ys)) ≡ suc (suc (length ys))
    by_test true e = ap suc e
    by_test false e = refl

pub before-all : (Q : Row → Type 0) (at : ℕ) (rows : List Row) → length rows ≤ at → Before Q at rows → AllRows Q rows
before-all Q at [] le b = tt
before-all Q zero (r ∷ rs) le b = absurd (omega arith)
before-all Q (suc at) (r ∷ rs) le b = (b.0, before-all Q at rs (omega arith) b.1)

-- ---- rising numbers

pub rises-least : (least at : ℕ) (rows : List Row) (r : Row) → Rises least rows → slice_get rows at ≡ Some r → least ≤ number_of r.bucket
rises-least least at [] r h e = cc
rises-least least zero (q ∷ qs) r h e = let same : q ≡ r = cc in subst (λ (x : Row). least ≤ number_of x.bucket) same h.0
rises-least least (suc at) (q ∷ qs) r h e = let ih = rises-least (number_of q.bucket) at qs r h.1 e in let le = h.0 in omega (arith, ih, le)

pub rises-before : (least at : ℕ) (rows : List Row) (r : Row) → Rises least rows → slice_get rows at ≡ Some r → Before (λ q. number_of q.bucket ≤ number_of r.bucket) at rows
rises-before least at [] r h e = cc
rises-before least zero (q ∷ qs) r h e = tt
rises-before least (suc at) (q ∷ qs) r h e = (rises-least (number_of q.bucket) at qs r h.1 e, rises-before (number_of q.bucket) at qs r h.1 e)

-- so bits don't fall
abbrev pub BitsRise : ℕ → List Row → Type 0
BitsRise least [] = Unit {0}
BitsRise least (r ∷ rs) = (least ≤ r.bucket.bits) × BitsRise r.bucket.bits rs

bits-after : (q : Row) → IsBucket q.bucket → (rows : List Row) → AllRows (λ r. IsBucket r.bucket) rows → Rises (number_of q.bucket) rows → BitsRise q.bucket.bits rows
bits-after q ok [] valid h = tt
bits-after q ok (r ∷ rs) valid h = (number_bits q.bucket r.bucket ok valid.0 h.0, bits-after r valid.0 rs valid.1 h.1)

pub bits-rise : (rows : List Row) → AllRows (λ r. IsBucket r.bucket) rows → Rises 0 rows → BitsRise 0 rows
bits-rise [] valid h = tt
bits-rise (r ∷ rs) valid h = (omega arith, bits-after r valid.0 rs valid.1 h.1)

-- ---- how many have fewer bits

pub fewer-placed : (k : ℕ) (x : Row) (rows : List Row) → fewer k (with_row x rows) ≡ one_if (nat_lt x.bucket.bits k) + fewer k rows
fewer-placed k x [] = count_cons (λ (r : Row). nat_lt r.bucket.bits k) x []
fewer-placed k x (y ∷ ys) = by_test (nat_lt (number_of y.bucket) (number_of x.bucket)) (fewer-placed k x ys)
  where
    by_test : (t : Bool) → fewer k (with_row x ys) ≡ one_if (nat_lt x.bucket.bits k) + fewer k ys → fewer k (cond t (y ∷ with_row x ys) (x ∷ y ∷ ys)) ≡ one_if (nat_lt x.bucket.bits k) + fewer k (y ∷ ys)
    by_test true e = omega (arith, count_cons (λ (r : Row). nat_lt r.bucket.bits k) y (with_row x ys), count_cons (λ (r : Row). nat_lt r.bucket.bits k) y ys, e)
    by_test false e = count_cons (λ (r : Row). nat_lt r.bucket.bits k) x (y ∷ ys)

pub fewer-removed : (k : ℕ) (rows : List Row) (at : ℕ) (r : Row) → slice_get rows at ≡ Some r → fewer k rows ≡ one_if (nat_lt r.bucket.bits k) + fewer k (remove rows at)
fewer-removed k [] at r h = cc
fewer-removed k (q ∷ qs) zero r h = let same : q ≡ r = cc in count_cons (λ (x : Row). nat_lt x.bucket.bits k) q qs ∙ ap (λ (x : Row). one_if (nat_lt x.bucket.bits k) + fewer k qs) same
fewer-removed k (q ∷ qs) (suc at) r h =
    omega (arith, count_cons (λ (x : Row). nat_lt x.bucket.bits k) q qs, count_cons (λ (x : Row). nat_lt x.bucket.bits k) q (remove qs at), fewer-removed k qs at r h)

none-fewer : (k least : ℕ) (rows : List Row) → k ≤ least → BitsRise least rows → fewer k rows ≡ 0
none-fewer k least [] le h = refl
none-fewer k least (r ∷ rs) le h =
    let low : k ≤ r.bucket.bits = (let x = h.0 in omega (arith, le, x)) in
    let ih = none-fewer k r.bucket.bits rs low h.1 in
    let out : one_if (nat_lt r.bucket.bits k) ≡ 0 = not_less r.bucket.bits k low in
    omega (arith, count_cons (λ (x : Row). nat_lt x.bucket.bits k) r rs, ih, out)
  where
    not_less : (m n : ℕ) → n ≤ m → one_if (nat_lt m n) ≡ 0
    not_less m n h = grind (arith, nat_tests)

-- the row of a place has fewer bits just where the place is before those that don't
pub place-fewer : (k least at : ℕ) (rows : List Row) (r : Row) → BitsRise least rows → slice_get rows at ≡ Some r → at < fewer k rows → r.bucket.bits < k
place-fewer k least at [] r h e lt = cc
place-fewer k least at (q ∷ qs) r h e lt = by_test (nat_lt q.bucket.bits k) refl at e (let c = count_cons (λ (x : Row). nat_lt x.bucket.bits k) q qs in omega (arith, c, lt)) (λ i f less. place-fewer k q.bucket.bits i qs r h.1 f less)
  where
    by_test : (t : Bool) → nat_lt q.bucket.bits k ≡ t → (at : ℕ) → slice_get (q ∷ qs) at ≡ Some r → at < one_if (nat_lt q.bucket.bits k) + fewer k qs → ((i : ℕ) → slice_get qs i ≡ Some r → i < fewer k qs → r.bucket.bits < k) → r.bucket.bits < k
    by_test true e zero f lt ih = let same : q ≡ r = cc in subst (λ (x : Row). x.bucket.bits < k) same (less q.bucket.bits k e)
      where
        less : (m n : ℕ) → nat_lt m n ≡ true → m < n
        less m n h = grind (arith, nat_tests)
    by_test true e (suc at) f lt ih = let one : one_if (nat_lt q.bucket.bits k) ≡ 1 = ap one_if e in ih at f (omega (arith, one, lt))
    by_test false e at f lt ih =
        let none : one_if (nat_lt q.bucket.bits k) ≡ 0 = ap one_if e in
        let rest = none-fewer k q.bucket.bits qs (more q.bucket.bits k e) h.1 in
        absurd (omega (arith, none, rest, lt))
      where
        more : (m n : ℕ) → nat_lt m n ≡ false → n ≤ m
        more m n h = grind (arith, nat_tests)

pub place-more : (k at : ℕ) (rows : List Row) (r : Row) → slice_get rows at ≡ Some r → fewer k rows ≤ at → (least : ℕ) → BitsRise least rows → k ≤ r.bucket.bits
place-more k at [] r e le least h = cc
place-more k at (q ∷ qs) r e le least h = by_test (nat_lt q.bucket.bits k) refl at e (let c = count_cons (λ (x : Row). nat_lt x.bucket.bits k) q qs in omega (arith, c, le)) (λ i f low. place-more k i qs r f low q.bucket.bits h.1)
  where
    later : (least at : ℕ) (rows : List Row) → BitsRise least rows → slice_get rows at ≡ Some r → least ≤ r.bucket.bits
    later least at [] h f = cc
    later least zero (x ∷ xs) h f = let same : x ≡ r = cc in subst (λ (y : Row). least ≤ y.bucket.bits) same h.0
    later least (suc at) (x ∷ xs) h f = let ih = later x.bucket.bits at xs h.1 f in let low = h.0 in omega (arith, ih, low)

    by_test : (t : Bool) → nat_lt q.bucket.bits k ≡ t → (at : ℕ) → slice_get (q ∷ qs) at ≡ Some r → one_if (nat_lt q.bucket.bits k) + fewer k qs ≤ at → ((i : ℕ) → slice_get qs i ≡ Some r → fewer k qs ≤ i → k ≤ r.bucket.bits) → k ≤ r.bucket.bits
    by_test true e zero f le ih = let one : one_if (nat_lt q.bucket.bits k) ≡ 1 = ap one_if e in absurd (omega (arith, one, le))
    by_test true e (suc at) f le ih = let one : one_if (nat_lt q.bucket.bits k) ≡ 1 = ap one_if e in ih at f (omega (arith, one, le))
    by_test false e at f le ih = let low = later q.bucket.bits at (q ∷ qs) (omega arith, h.1) f in let m = more q.bucket.bits k e in omega (arith, low, m)
      where
        more : (m n : ℕ) → nat_lt m n ≡ false → n ≤ m
        more m n h = grind (arith, nat_tests)
