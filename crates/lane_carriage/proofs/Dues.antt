-- Which messages are due, and in which order.
use Rattle.std.proofs.Common.{◌≡◌, ◌==◌, ◌&&◌, ◌↔◌, ◌⊎◌, ◌≤◌, ◌<◌, ◌+◌, ℕ, zero, suc, Bool, true, false, List, [], ◌∷◌, length, get_or, nat_lt, nat_le, Option, Some, if◌then◌else◌, inl, inr, refl, sym, ap, ◌∙◌, subst, arith, eq-eqb}
use Rattle.std.specs.List.{Contains}
use Rattle.std.specs.List.Sorted.{IsStrictlyIncreasing}
use Rattle.std.specs.Option.{is_some}
use Rattle.std.proofs.lemmas.Bool.Decides.{nat_tests}
use Rattle.carriers.specs.declared.fate.Fate.{Fate}
use Rattle.carriers.specs.declared.fate.Fate.TheVariants.{Deliver, LoseRequest, LoseReply, Twice, Late}
use Rattle.lane_carriage.specs.Carriage.{is_due, due_from, due}
use Rattle.lane_carriage.specs.Readers.{fate_from, fate_of}
use Rattle.lane_carriage.proofs.Fates.{fate-within}

-- ---- lists of numbers

contains-later : (x q : ℕ) (xs : List ℕ) → Contains xs q → Contains (x ∷ xs) q
contains-later x q xs h = (suc h.0, omega (arith, h.1), h.2)

contains-split : (x q : ℕ) (xs : List ℕ) → Contains (x ∷ xs) q → (x ≡ q) ⊎ Contains xs q
contains-split x q xs h = by h.0 h.1 h.2
  where
    by : (k : ℕ) → k < length (x ∷ xs) → get_or (x ∷ xs) k q ≡ q → (x ≡ q) ⊎ Contains xs q
    by zero lt e = inl e
    by (suc k) lt e = inr (k, omega (arith, lt), e)

-- the numbers rise, from one on
abbrev RisesFrom : ℕ → List ℕ → Type 0
RisesFrom least [] = Unit {0}
RisesFrom least (n ∷ ns) = (least ≤ n) × RisesFrom (n + 1) ns

rises-less : (low high : ℕ) (ns : List ℕ) → low ≤ high → RisesFrom high ns → RisesFrom low ns
rises-less low high [] le r = tt
rises-less low high (n ∷ ns) le r = (omega (arith, le, r.0), r.1)

increasing : (least : ℕ) (ns : List ℕ) → RisesFrom least ns → IsStrictlyIncreasing ns
increasing least [] r k lt = absurd (omega arith)
increasing least (n ∷ []) r k lt = absurd (omega arith)
increasing least (n ∷ m ∷ ns) r zero lt = omega (arith, r.1.0)
increasing least (n ∷ m ∷ ns) r (suc k) lt =
    let next : suc k + 1 ≡ suc (k + 1) = omega arith in
    rw next (increasing (n + 1) (m ∷ ns) r.1 k (omega (arith, lt)))

-- ---- those that are due

due-rises : (i : ℕ) (given : List Fate) (n : ℕ) → RisesFrom i (due_from i given n)
due-rises i [] n = tt
due-rises i (f ∷ given) n = by (is_due i f n) (due-rises (i + 1) given n)
  where
    by : (t : Bool) → RisesFrom (i + 1) (due_from (i + 1) given n) → RisesFrom i (if t then i ∷ due_from (i + 1) given n else due_from (i + 1) given n)
    by true ih = (omega arith, ih)
    by false ih = rises-less i (i + 1) (due_from (i + 1) given n) (omega arith) ih

pub rising : (given : List Fate) (n : ℕ) → IsStrictlyIncreasing (due given n)
rising given n = increasing 1 (due given n) (due-rises 1 given n)

late-by : (i : ℕ) (f : Fate) (n : ℕ) → is_due i f n ≡ true → (k : ℕ) × (f ≡ Late k) × (i + k ≡ n)
late-by i Deliver n h = cc
late-by i LoseRequest n h = cc
late-by i LoseReply n h = cc
late-by i Twice n h = cc
late-by i (Late k) n h = (k, refl, grind (arith, nat_tests))

-- the fate of a number stands behind all of smaller ones
later-fate : (i j : ℕ) (f : Fate) (given : List Fate) (g : Fate) → fate_from (i + 1) j given ≡ Some g → fate_from i j (f ∷ given) ≡ Some g
later-fate i j f given g e =
    let there : is_some (fate_from (i + 1) j given) ≡ true = ap (λ (o : Option Fate). is_some o) e in
    let within : (nat_le (i + 1) j && nat_lt j (i + 1 + length given)) ≡ true = sym (fate-within (i + 1) j given) ∙ there in
    let other : (i == j) ≡ false = grind (arith, nat_tests) in
    rw other e

own-fate : (i j : ℕ) (f : Fate) (given : List Fate) → i ≡ j → fate_from i j (f ∷ given) ≡ Some f
own-fate i j f given e = let same : (i == j) ≡ true = grind (arith, nat_tests) in rw same refl

due-just : (i j n : ℕ) (given : List Fate) → Contains (due_from i given n) j → (k : ℕ) × (fate_from i j given ≡ Some (Late k)) × (j + k ≡ n)
due-just i j n [] h = absurd (omega (arith, h.1))
due-just i j n (f ∷ given) h = by (is_due i f n) refl h (λ c. let r = due-just (i + 1) j n given c in (r.0, later-fate i j f given (Late r.0) r.1, r.2))
  where
    by : (t : Bool) → is_due i f n ≡ t → Contains (if t then i ∷ due_from (i + 1) given n else due_from (i + 1) given n) j
        → (Contains (due_from (i + 1) given n) j → (k : ℕ) × (fate_from i j (f ∷ given) ≡ Some (Late k)) × (j + k ≡ n))
        → (k : ℕ) × (fate_from i j (f ∷ given) ≡ Some (Late k)) × (j + k ≡ n)
    by false e c ih = ih c
    by true e c ih = elim (contains-split i j (due_from (i + 1) given n) c) [
      | inl same ↦ (let l = late-by i f n e in (l.0, own-fate i j f given same ∙ ap (λ (g : Fate). Some g) l.1, subst (λ (m : ℕ). m + l.0 ≡ n) same l.2))
      | inr more ↦ ih more
    ]

due-has : (i j n k : ℕ) (given : List Fate) → fate_from i j given ≡ Some (Late k) → j + k ≡ n → Contains (due_from i given n) j
due-has i j n k [] h e = cc
due-has i j n k (f ∷ given) h e = by (i == j) refl h (λ r. due-has (i + 1) j n k given r e)
  where
    put : (t : Bool) → Contains (due_from (i + 1) given n) j → Contains (if t then i ∷ due_from (i + 1) given n else due_from (i + 1) given n) j
    put true c = contains-later i j (due_from (i + 1) given n) c
    put false c = c

    own : (t : Bool) → is_due i f n ≡ t → t ≡ true → i ≡ j → Contains (if t then i ∷ due_from (i + 1) given n else due_from (i + 1) given n) j
    own true d due_now same = (0, omega arith, same)
    own false d due_now same = cc

    by : (t : Bool) → (i == j) ≡ t → (if t then Some f else fate_from (i + 1) j given) ≡ Some (Late k)
        → (fate_from (i + 1) j given ≡ Some (Late k) → Contains (due_from (i + 1) given n) j)
        → Contains (due_from i (f ∷ given) n) j
    by false d r ih = put (is_due i f n) (ih r)
    by true d r ih =
        let same : i ≡ j = grind (arith, nat_tests) in
        let fate : f ≡ Late k = cc in
        let due_now : is_due i f n ≡ true = ap (λ (g : Fate). is_due i g n) fate ∙ eq-eqb (i + k) n (ap (λ (m : ℕ). m + k) same ∙ e) in
        own (is_due i f n) refl due_now same

pub just : (given : List Fate) (n j : ℕ) → Contains (due given n) j ↔ ((k : ℕ) × (fate_of j given ≡ Some (Late k)) × (j + k ≡ n))
just given n j = (λ h. due-just 1 j n given h, λ h. due-has 1 j n h.0 given h.1 h.2)
