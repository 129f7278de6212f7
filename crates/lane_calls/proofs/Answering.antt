-- In a legal journal each line has one answer at most.
use Rattle.std.proofs.Common.{◌≡◌, ◌==◌, ◌+◌, ◌≤◌, ℕ, Bool, true, false, List, [], ◌∷◌, Option, None, Some, IsSome, inl, inr, refl, sym, ap, ◌∙◌, subst, slice_get, if◌then◌else◌, arith}
use Rattle.std.proofs.lemmas.Bool.Decides.{nat_tests}
use Rattle.proof_basics.proofs.Options.{none_some}
use Rattle.messages.specs.declared.outcome.Outcome.{Outcome}
use Rattle.lane_journals.specs.Readers.{Beginning, or_else, only_if, began, refused, closed}
use Rattle.lane_journals.specs.Meanings.{history}
use Rattle.lane_journals.specs.Places.{Setting}
use Rattle.lane_journals.specs.KeptJournals.{IsLegal, IsLegalStep}
use Rattle.lane_journals.specs.declared.event.LaneEvent.{LaneEvent}
use Rattle.lane_journals.specs.declared.event.LaneEvent.TheVariants as event
use Rattle.lane_calls.specs.LaneValues.{LaneValue, IsLaneValue}
use Rattle.lane_calls.specs.declared.progress.UnderWay.{UnderWay}
use Rattle.lane_calls.specs.Readings.{outcome_in}
use Rattle.lane_calls.proofs.OneLine.{unended_none}
use Rattle.lane_calls.specs.LineEvents.{answers_line, answers}

some-of : {A : Type 0} (o : Option A) → (o ≡ None → ⊥) → (x : A) × (o ≡ Some x)
some-of None h = absurd (h refl)
some-of (Some x) h = (x, refl)

only_same : (l n : ℕ) (x y : Beginning) → only_if (l == n) x ≡ Some y → l ≡ n
only_same l n x y h = grind (arith, nat_tests)

-- ---- what legal journals say of a line

module _ (S : Setting) (n : ℕ) where
  -- a line that isn't begun isn't closed
  closed-none : (J : List LaneEvent) → IsLegal S J → began n (history J) ≡ None → closed n (history J) ≡ false
  closed-none [] legal none = refl
  closed-none (e ∷ J) legal none = by_event e none legal.1 (closed-none J legal.0)
    where
      by_event : (e : LaneEvent) → began n (history (e ∷ J)) ≡ None → IsLegalStep S J e → (began n (history J) ≡ None → closed n (history J) ≡ false) → closed n (history (e ∷ J)) ≡ false
      by_event (event.Begun l d v id stamp) none step below = below (before (began n (history J)) _ none)
        where
          before : (o p : Option Beginning) → or_else o p ≡ None → o ≡ None
          before None p h = refl
          before (Some b) p h = h
      by_event (event.Closed l outcome) none step below =
          let may = step.permitted in
          let rest = below none in
          let other : (l == n) ≡ false = off l may.begin may.begun none (l == n) refl in
          ap (λ (t : Bool). if t then true else closed n (history J)) other ∙ rest
        where
          off : (l : ℕ) (b : Beginning) → began l (history J) ≡ Some b → began n (history J) ≡ None → (t : Bool) → (l == n) ≡ t → (l == n) ≡ false
          off l b begun none true is = absurd (let same : l ≡ n = grind (arith, nat_tests) in none_some b (sym none ∙ ap (λ (k : ℕ). began k (history J)) (sym same) ∙ begun))
          off l b begun none false is = is
      by_event _ none step below = below none

  -- and one that is begun isn't refused
  pub unrefused : (J : List LaneEvent) → IsLegal S J → (b : Beginning) → began n (history J) ≡ Some b → refused n (history J) ≡ false
  unrefused [] legal b begun = refl
  unrefused (e ∷ J) legal b begun = by_event e begun legal.1 (unrefused J legal.0)
    where
      by_event : (e : LaneEvent) → began n (history (e ∷ J)) ≡ Some b → IsLegalStep S J e → ((c : Beginning) → began n (history J) ≡ Some c → refused n (history J) ≡ false) → refused n (history (e ∷ J)) ≡ false
      by_event (event.Begun l d v id stamp) begun step below = by_before (began n (history J)) refl
        where
          by_before : (o : Option Beginning) → began n (history J) ≡ o → refused n (history J) ≡ false
          by_before (Some c) is = below c is
          by_before None is =
              let may = step.permitted in
              let now : only_if (l == n) (record { distributor = d; version = v; id = id; stamp = stamp }) ≡ Some b = sym (ap (λ (o : Option Beginning). or_else o (only_if (l == n) (record { distributor = d; version = v; id = id; stamp = stamp }))) is) ∙ begun in
              let same : l ≡ n = only_same l n _ b now in
              subst (λ (k : ℕ). refused k (history J) ≡ false) same may.unrefused
      by_event (event.Refused l d outcome) begun step below =
          let may = step.permitted in
          let rest = below b begun in
          let other : (l == n) ≡ false = off l may.fresh (l == n) refl in
          ap (λ (t : Bool). if t then true else refused n (history J)) other ∙ rest
        where
          off : (l : ℕ) → began l (history J) ≡ None → (t : Bool) → (l == n) ≡ t → (l == n) ≡ false
          off l fresh true is = absurd (let same : l ≡ n = grind (arith, nat_tests) in none_some b (sym fresh ∙ ap (λ (k : ℕ). began k (history J)) same ∙ begun))
          off l fresh false is = is
      by_event _ begun step below = below b begun

  -- ---- answers

  -- an event answers it only where it has no outcome
  answered-new : (J : List LaneEvent) → IsLegal S J → (e : LaneEvent) → IsLegalStep S J e → answers_line n e ≡ true → outcome_in n J ≡ None
  answered-new J legal (event.Closed l outcome) step is =
      let may = step.permitted in
      let same : l ≡ n = grind (arith, nat_tests) in
      let begun : began n (history J) ≡ Some may.begin = ap (λ (k : ℕ). began k (history J)) (sym same) ∙ may.begun in
      unended_none n J (ap (λ (k : ℕ). closed k (history J)) (sym same) ∙ may.unclosed) (unrefused J legal may.begin begun)
  answered-new J legal (event.Refused l d outcome) step is =
      let may = step.permitted in
      let same : l ≡ n = grind (arith, nat_tests) in
      let fresh : began n (history J) ≡ None = ap (λ (k : ℕ). began k (history J)) (sym same) ∙ may.fresh in
      unended_none n J (closed-none J legal fresh) (ap (λ (k : ℕ). refused k (history J)) (sym same) ∙ may.unrefused)
  answered-new J legal _ step is = absurd cc

-- as many answers as it has outcomes
abbrev Tells : ℕ → List LaneEvent → Type 0
Tells n J = (IsSome (outcome_in n J) → answers n J ≡ 1) × (outcome_in n J ≡ None → answers n J ≡ 0)

or_none : (o : Option Outcome) → or_else o None ≡ o
or_none None = refl
or_none (Some x) = refl

or_new : (o : Option Outcome) (t : Bool) (x : Outcome) → t ≡ true → or_else o (only_if t x) ≡ None → ⊥
or_new None true x h none = cc
or_new None false x h none = cc
or_new (Some y) t x h none = cc

outcome-same : (n : ℕ) (e : LaneEvent) (J : List LaneEvent) → answers_line n e ≡ false → outcome_in n (e ∷ J) ≡ outcome_in n J
outcome-same n (event.Closed l outcome) J h = ap (λ (t : Bool). or_else (outcome_in n J) (only_if t outcome)) h ∙ or_none (outcome_in n J)
outcome-same n (event.Refused l d outcome) J h = ap (λ (t : Bool). or_else (outcome_in n J) (only_if t outcome)) h ∙ or_none (outcome_in n J)
outcome-same n _ J h = refl

outcome-new : (n : ℕ) (e : LaneEvent) (J : List LaneEvent) → answers_line n e ≡ true → outcome_in n (e ∷ J) ≡ None → ⊥
outcome-new n (event.Closed l outcome) J h none = or_new (outcome_in n J) (l == n) outcome h none
outcome-new n (event.Refused l d outcome) J h none = or_new (outcome_in n J) (l == n) outcome h none
outcome-new n _ J h none = absurd cc

-- without an outcome there is no answer
pub none-answers : (J : List LaneEvent) (n : ℕ) → outcome_in n J ≡ None → answers n J ≡ 0
none-answers [] n none = refl
none-answers (e ∷ J) n none = by_test (none-answers J n) (answers_line n e) refl
  where
    by_test : (outcome_in n J ≡ None → answers n J ≡ 0) → (t : Bool) → answers_line n e ≡ t → answers n (e ∷ J) ≡ 0
    by_test rest true is = absurd (outcome-new n e J is none)
    by_test rest false is = ap (λ (t : Bool). if t then answers n J + 1 else answers n J) is ∙ rest (sym (outcome-same n e J is) ∙ none)

pub one-answers : (S : Setting) (J : List LaneEvent) → IsLegal S J → (n : ℕ) → IsSome (outcome_in n J) → answers n J ≡ 1
one-answers S [] legal n some = absurd cc
one-answers S (e ∷ J) legal n some = by_test (one-answers S J legal.0 n) (answers_line n e) refl
  where
    by_test : (IsSome (outcome_in n J) → answers n J ≡ 1) → (t : Bool) → answers_line n e ≡ t → answers n (e ∷ J) ≡ 1
    by_test rest true is = ap (λ (t : Bool). if t then answers n J + 1 else answers n J) is ∙ ap (λ (k : ℕ). k + 1) (none-answers J n (answered-new S n J legal.0 e legal.1 is))
    by_test rest false is = ap (λ (t : Bool). if t then answers n J + 1 else answers n J) is ∙ rest (subst IsSome (outcome-same n e J is) some)

pub once-answers : (S : Setting) (J : List LaneEvent) → IsLegal S J → (n : ℕ) → answers n J ≤ 1
once-answers S J legal n = by_outcome (outcome_in n J) refl
  where
    by_outcome : (o : Option Outcome) → outcome_in n J ≡ o → answers n J ≤ 1
    by_outcome None is = let none = none-answers J n is in omega (arith, none)
    by_outcome (Some x) is = let one = one-answers S J legal n (subst IsSome (sym is) refl) in omega (arith, one)

-- ---- no operation is under way

closed-answers : (n : ℕ) (J : List LaneEvent) → closed n (history J) ≡ true → outcome_in n J ≡ None → ⊥
closed-answers n [] over none = absurd cc
closed-answers n (e ∷ J) over none = by_test (closed-answers n J) (answers_line n e) refl
  where
    still : (e : LaneEvent) → answers_line n e ≡ false → closed n (history (e ∷ J)) ≡ true → closed n (history J) ≡ true
    still (event.Closed l outcome) is h = sym (ap (λ (t : Bool). if t then true else closed n (history J)) is) ∙ h
    still _ is h = h

    by_test : (closed n (history J) ≡ true → outcome_in n J ≡ None → ⊥) → (t : Bool) → answers_line n e ≡ t → ⊥
    by_test rest true is = outcome-new n e J is none
    by_test rest false is = rest (still e is over) (sym (outcome-same n e J is) ∙ none)

pub idle-answers : (v : LaneValue) → IsLaneValue v → v.under_way ≡ [] → (n : ℕ) (begin : Beginning) → began n (history v.journal) ≡ Some begin → IsSome (outcome_in n v.journal)
idle-answers v holds idle n begin begun = by_outcome (outcome_in n v.journal) refl
  where
    over : closed n (history v.journal) ≡ true
    over = elim ((holds.lines).others n begin begun) [
      | inl is ↦ is
      | inr there ↦ absurd (none_some there.1 (ap (λ (us : List UnderWay). slice_get us there.0) (sym idle) ∙ (there.2).found))
    ]

    by_outcome : (o : Option Outcome) → outcome_in n v.journal ≡ o → IsSome o
    by_outcome (Some x) is = refl
    by_outcome None is = absurd (closed-answers n v.journal over is)
