-- Fates by number, and which messages are due.
use Rattle.std.proofs.Common.{◌≡◌, ◌==◌, ◌&&◌, ◌<◌, ◌+◌, ℕ, zero, suc, Bool, true, false, List, [], ◌∷◌, ◌++◌, length, nat_lt, nat_le, Option, Some, None, slice_get, if◌then◌else◌, refl, ap, ◌∙◌, arith}
use Rattle.std.proofs.lemmas.Bool.Decides.{nat_tests}
use Rattle.std.specs.Option.{is_some}
use Rattle.carriers.specs.declared.fate.Fate.{Fate}
use Rattle.lane_carriage.specs.Carriage.{is_due, due_from}
use Rattle.lane_carriage.specs.Readers.{fate_from}

pub fate-append : (i k : ℕ) (given : List Fate) (f : Fate)
    → fate_from i k (given ++ f ∷ []) ≡ (if k == i + length given then Some f else fate_from i k given)
fate-append i k [] f = grind (arith, nat_tests)
fate-append i k (g ∷ given) f = let ih = fate-append (i + 1) k given f in grind (arith, nat_tests)

pub fate-within : (i k : ℕ) (given : List Fate) → is_some (fate_from i k given) ≡ (nat_le i k && nat_lt k (i + length given))
fate-within i k [] = grind (arith, nat_tests)
fate-within i k (g ∷ given) = let ih = fate-within (i + 1) k given in grind (arith, nat_tests)

fate-at : (i j k : ℕ) (given : List Fate) → k ≡ i + j → fate_from i k given ≡ slice_get given j
fate-at i j k [] e = refl
fate-at i zero k (g ∷ given) e = grind (arith, nat_tests)
fate-at i (suc j) k (g ∷ given) e = let ih = fate-at (i + 1) j k given (omega arith) in grind (arith, nat_tests)

pub fate-place : (given : List Fate) (j : ℕ) → fate_from 1 (j + 1) given ≡ slice_get given j
fate-place given j = fate-at 1 j (j + 1) given (omega arith)

pub due-append : (i : ℕ) (given : List Fate) (f : Fate) (n : ℕ)
    → due_from i (given ++ f ∷ []) n ≡ due_from i given n ++ (if is_due (i + length given) f n then (i + length given) ∷ [] else [])
due-append i [] f n = let same : i + 0 ≡ i = omega arith in rw same refl
due-append i (g ∷ given) f n = by (is_due i g n) (due-append (i + 1) given f n)
  where
    same : i + 1 + length given ≡ i + suc (length given)
    same = omega arith

    last : ℕ → List ℕ
    last j = if is_due j f n then j ∷ [] else []

    by : (b : Bool) → due_from (i + 1) (given ++ f ∷ []) n ≡ due_from (i + 1) given n ++ (if is_due (i + 1 + length given) f n then (i + 1 + length given) ∷ [] else [])
        → (if b then i ∷ due_from (i + 1) (given ++ f ∷ []) n else due_from (i + 1) (given ++ f ∷ []) n)
        ≡ (if b then i ∷ due_from (i + 1) given n else due_from (i + 1) given n) ++ (if is_due (i + suc (length given)) f n then (i + suc (length given)) ∷ [] else [])
    by true ih = ap (λ (ns : List ℕ). i ∷ ns) (rw same at ih)
    by false ih = rw same at ih

-- ---- numbers that are due

-- after these deliveries, where `l` was sent last
abbrev pub added : ℕ → ℕ → List ℕ → List ℕ → List ℕ
added k l [] A = A
added k l (n ∷ ns) A = added k l ns (if n == k then l ∷ A else A)

abbrev pub is_due_if : ℕ → Option Fate → ℕ → Bool
is_due_if k None n = false
is_due_if k (Some f) n = is_due k f n

added-if : (k l i : ℕ) (ns A : List ℕ) (b : Bool)
    → added k l (if b then i ∷ ns else ns) A ≡ added k l ns (if b then (if i == k then l ∷ A else A) else A)
added-if k l i ns A true = refl
added-if k l i ns A false = refl

added-none : (k l i : ℕ) (given : List Fate) (n : ℕ) (A : List ℕ) → k < i → added k l (due_from i given n) A ≡ A
added-none k l i [] n A lt = refl
added-none k l i (f ∷ given) n A lt =
    added-if k l i (due_from (i + 1) given n) A (is_due i f n)
    ∙ ap (λ (B : List ℕ). added k l (due_from (i + 1) given n) B) (other (is_due i f n))
    ∙ added-none k l (i + 1) given n A (omega arith)
  where
    other : (b : Bool) → (if b then (if i == k then l ∷ A else A) else A) ≡ A
    other true = grind (arith, nat_tests)
    other false = refl

by-place : (k l i : ℕ) (f : Fate) (given : List Fate) (n : ℕ) (A : List ℕ) (t : Bool) → (i == k) ≡ t
    → ((B : List ℕ) → added k l (due_from (i + 1) given n) B ≡ (if is_due_if k (fate_from (i + 1) k given) n then l ∷ B else B))
    → added k l (due_from (i + 1) given n) (if is_due i f n then (if t then l ∷ A else A) else A)
    ≡ (if is_due_if k (if t then Some f else fate_from (i + 1) k given) n then l ∷ A else A)
by-place k l i f given n A true e ih =
    let same : i ≡ k = grind (arith, nat_tests) in
    added-none k l (i + 1) given n (if is_due i f n then l ∷ A else A) (omega arith)
    ∙ ap (λ (j : ℕ). if is_due j f n then l ∷ A else A) same
by-place k l i f given n A false e ih = ap (λ (B : List ℕ). added k l (due_from (i + 1) given n) B) (other (is_due i f n)) ∙ ih A
  where
    other : (b : Bool) → (if b then A else A) ≡ A
    other true = refl
    other false = refl

pub added-due : (k l i : ℕ) (given : List Fate) (n : ℕ) (A : List ℕ)
    → added k l (due_from i given n) A ≡ (if is_due_if k (fate_from i k given) n then l ∷ A else A)
added-due k l i [] n A = refl
added-due k l i (f ∷ given) n A =
    added-if k l i (due_from (i + 1) given n) A (is_due i f n)
    ∙ by-place k l i f given n A (i == k) refl (λ B. added-due k l (i + 1) given n B)
