-- How many count and who is absent, from tests of nodes; and that there is one such count and one such node.
use Rattle.std.proofs.Common.{◌≡◌, ◌↔◌, ℕ, ◌<◌, ◌≤◌, Bool, true, false, Option, Some, None, inl, inr, refl, sym, ap, ◌∙◌, subst, arith, cond}
use mathlib.Core.Bool.{true≢false}
use Rattle.std.proofs.lemmas.Bool.{cases_lt}
use Rattle.op_machine.specs.Nodes.{first_node, count_nodes}
use Rattle.op_machine.specs.Outcomes.{node_or_zero, absent_of}
use Rattle.op_machine.proofs.NodeLaws.{IsLeast, first_node-least, first_node-all}
use Rattle.lane_journals.specs.Sets.{AtLeast}
use Rattle.lane_journals.specs.Endings.{Exactly}
use Rattle.lane_journals.proofs.Counts.{count-subset}
use Rattle.messages.specs.declared.outcome.Outcome.{Outcome}
use Rattle.messages.specs.declared.outcome.Outcome.TheVariants.{TooFew, NoMemory}
use Rattle.operation_keeping.specs.Wants.{Ends, EndsUnless}
use Rattle.operation_keeping.proofs.Counting.{count_nodes-is}
use Rattle.line_outcomes.specs.Shortages.{IsAbsent, IsShortOf, IsTooFewOf, AreFewer}

pub some-same : {A : Type 0} (x y : A) → ◌≡◌ {A = Option A} (Some x) (Some y) → x ≡ y
some-same x y e = cc

-- ---- what a test counts

pub exactly-by : (test : ℕ → Bool) (C : ℕ → Type 0) → ((n : ℕ) → (test n ≡ true) ↔ C n) → Exactly (count_nodes test) C
exactly-by test C same = (test, sym (count_nodes-is test), same)

-- ---- who is absent

module _ (test : ℕ → Bool) (small : (n : ℕ) → test n ≡ true → n < 32) (some : (n : ℕ) × (test n ≡ true)) where
  abbrev Missing : ℕ → Type 0
  Missing n = test n ≡ true

  least : (o : Option ℕ) → first_node test ≡ o → Missing (node_or_zero o) × ((m : ℕ) → Missing m → node_or_zero o ≤ m)
  least None e = absurd (true≢false (sym some.1 ∙ first_node-all test e some.0 (small some.0 some.1)))
  least (Some n) e = (l.here, λ m h. below m h)
    where
      l : IsLeast test 0 32 n
      l = first_node-least test n e

      below : (m : ℕ) → Missing m → n ≤ m
      below m h = elim (cases_lt m n) [ inl less ↦ absurd (true≢false (sym h ∙ l.before m (omega arith) less)) | inr more ↦ more ]

  pub absent-by : (active : Option ℕ) → IsAbsent Missing active (absent_of active test)
  absent-by None = let l = least (first_node test) refl in record { is_missing = l.0; first = inr ((λ m e h. cc), l.1) }
  absent-by (Some a) = by_test (test a) refl
    where
      by_test : (t : Bool) → test a ≡ t → IsAbsent Missing (Some a) (cond t a (node_or_zero (first_node test)))
      by_test true e = record { is_missing = e; first = inl refl }
      by_test false e = let l = least (first_node test) refl in record { is_missing = l.0; first = inr ((λ m same h. true≢false (sym (subst (λ (k : ℕ). test k ≡ true) (sym (some-same a m same)) h) ∙ e)), l.1) }

-- the same in other words
pub absent-in : (M N : ℕ → Type 0) → ((n : ℕ) → M n ↔ N n) → (active : Option ℕ) (n : ℕ) → IsAbsent M active n → IsAbsent N active n
absent-in M N same active n a = record {
  is_missing = (same n).0 a.is_missing;
  first = elim a.first [ inl is ↦ inl is | inr low ↦ inr ((λ m e h. low.0 m e ((same m).1 h)), λ m h. low.1 m ((same m).1 h)) ];
}

-- where not each number below 32 fails a test, one passes it
pub some-node : (test : ℕ → Bool) → (((n : ℕ) → n < 32 → test n ≡ false) → ⊥) → (n : ℕ) × (test n ≡ true)
some-node test none = by_first (first_node test) refl
  where
    by_first : (o : Option ℕ) → first_node test ≡ o → (n : ℕ) × (test n ≡ true)
    by_first (Some n) e = (n, (first_node-least test n e).here)
    by_first None e = absurd (none (first_node-all test e))

-- ---- too few

module _ (W : Type 0) (counted missing : ℕ → Bool) (C M : ℕ → Type 0) (counts : (n : ℕ) → (counted n ≡ true) ↔ C n) (lacks : (n : ℕ) → (missing n ≡ true) ↔ M n)
    (small : (n : ℕ) → missing n ≡ true → n < 32) (some : (n : ℕ) × (missing n ≡ true)) (needed : ℕ) (active : Option ℕ) where
  short-by : IsShortOf C M active (count_nodes counted) (absent_of active missing)
  short-by = record { exactly = exactly-by counted C counts; is_absent = absent-in (λ n. missing n ≡ true) M lacks active (absent_of active missing) (absent-by missing small some active) }

  pub few-by : (x : Outcome) → EndsUnless W (TooFew (count_nodes counted) needed (absent_of active missing)) (Ends x) → IsTooFewOf W C needed M active x
  few-by x h = elim h [ inl short ↦ inl short | inr few ↦ inr (few.0, (count_nodes counted, absent_of active missing, short-by, few.1)) ]

  -- told by a mark that a node wanted memory
  pub few-told : (short : Bool) → (short ≡ true) ↔ W → IsTooFewOf W C needed M active (cond short NoMemory (TooFew (count_nodes counted) needed (absent_of active missing)))
  few-told true told = inl (told.0 refl, refl)
  few-told false told = inr ((λ w. true≢false (sym (told.1 w))), (count_nodes counted, absent_of active missing, short-by, refl))

-- ---- there is one

pub exactly-same : (P : ℕ → Type 0) (k j : ℕ) → Exactly k P → Exactly j P → k ≡ j
exactly-same P k j a b =
    let up = count-subset a.0 b.0 (λ n h. (b.2 n).1 ((a.2 n).0 h)) in
    let down = count-subset b.0 a.0 (λ n h. (a.2 n).1 ((b.2 n).0 h)) in
    let x = a.1 in
    let y = b.1 in
    omega (arith, up, down, x, y)

-- fewer aren't as many
pub not-enough : (P : ℕ → Type 0) (k : ℕ) → AreFewer k P → AtLeast k P → ⊥
not-enough P k few enough =
    let up = count-subset enough.0 ((few.1).0) (λ n h. ((few.1).2 n).1 (enough.2 n h)) in
    let many = (few.1).1 in
    let less = few.2 in
    let more = enough.1 in
    omega (arith, up, many, less, more)

pub absent-same : (M : ℕ → Type 0) (active : Option ℕ) (n m : ℕ) → IsAbsent M active n → IsAbsent M active m → n ≡ m
absent-same M active n m a b = elim a.first [
  | inl x ↦ elim b.first [ inl y ↦ some-same n m (sym x ∙ y) | inr y ↦ absurd (y.0 n x a.is_missing) ]
  | inr x ↦ elim b.first [
    | inl y ↦ absurd (x.0 m y b.is_missing)
    | inr y ↦ (let low = x.1 m b.is_missing in let high = y.1 n a.is_missing in omega (arith, low, high))
  ]
]

pub few-same : (W : Type 0) (C M : ℕ → Type 0) (needed : ℕ) (active : Option ℕ) (x y : Outcome) → IsTooFewOf W C needed M active x → IsTooFewOf W C needed M active y → x ≡ y
few-same W C M needed active x y a b = elim a [
  | inl s ↦ elim b [ inl t ↦ s.1 ∙ sym t.1 | inr t ↦ absurd (t.0 s.0) ]
  | inr s ↦ elim b [
    | inl t ↦ absurd (s.0 t.0)
    | inr t ↦ (let many = exactly-same C s.1.0 t.1.0 (s.1.2).exactly (t.1.2).exactly in
        let absent = absent-same M active s.1.1 t.1.1 (s.1.2).is_absent (t.1.2).is_absent in
        s.1.3 ∙ ap (λ (k : ℕ). TooFew k needed s.1.1) many ∙ ap (λ (k : ℕ). TooFew t.1.0 needed k) absent ∙ sym t.1.3)
  ]
]
