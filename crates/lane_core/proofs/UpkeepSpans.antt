-- The span of an upkeep that a lane made.
use Rattle.std.proofs.Common.{◌≡◌, ◌⊎◌, ℕ, List, [], length, inl, inr, sym, ap, ◌∙◌, subst}
use Rattle.std.proofs.lemmas.List.{length-reverse}
use Rattle.lane_journals.specs.KeptJournals.{past}
use Rattle.lane_journals.specs.declared.event.LaneEvent.{LaneEvent}
use Rattle.upkeep_spans.specs.Causes.{IsCause}
use Rattle.upkeep_spans.specs.declared.answers.Upkeep.{Upkeep}
use Rattle.upkeep_spans.specs.declared.answers.Upkeep.TheVariants.{Rested, Blocked, Disturbed, NoMemory}
use Rattle.lane_calls.specs.LaneValues.{LaneValue}
use Rattle.lane_calls.specs.Upkept.{Maintains, IsUpkept}
use Rattle.lane_core.specs.Passes.{MakesPass, HasPassed, IsPassed}
use Rattle.lane_core.specs.Undisturbed.{IsUndisturbed}
use Rattle.lane_lives.specs.Upkeep.{WasCalm, IsSpan}
use Rattle.lane_lives.specs.declared.spans.UpkeepSpan.{UpkeepSpan}

-- as many events are shown as there are
length-past : (J : List LaneEvent) → length (past J) ≡ length J
unfolding past
length-past J = length-reverse J

abbrev span_from : List LaneEvent → List LaneEvent → Upkeep → UpkeepSpan
span_from shown now answer = record { from = length shown; to = length now; answer = answer }

-- an answer of these
abbrev pub IsTold : Upkeep → Type 0
IsTold answer = (answer ≡ Rested) ⊎ (((n : ℕ) × (answer ≡ Blocked n)) ⊎ ((n : ℕ) × (answer ≡ Disturbed n)))

-- a lane that is so is undisturbed
calm_is : (old new : LaneValue) → old.under_way ≡ [] → WasCalm old.journal new.journal old.given new.given → IsUndisturbed old new
calm_is old new idle h = record { idle = idle; state = h.state; newest = h.newest; run = h.run; answered = h.answered; unlate = h.unlate }

-- such an answer is no want of memory
remembers : (answer : Upkeep) → IsTold answer → (answer ≡ Rested) ⊎ (answer ≡ NoMemory) → answer ≡ Rested
remembers answer told (inl is) = is
remembers answer (inl is) (inr none) = is
remembers answer (inr (inl is)) (inr none) = absurd (not_blocked (sym is.1 ∙ none))
  where
    not_blocked : {n : ℕ} → Blocked n ≡ NoMemory → ⊥
    not_blocked e = cc e
remembers answer (inr (inr is)) (inr none) = absurd (not_disturbed (sym is.1 ∙ none))
  where
    not_disturbed : {n : ℕ} → Disturbed n ≡ NoMemory → ⊥
    not_disturbed e = cc e

module _ (old new : LaneValue) (shown now : List LaneEvent) (before : past shown ≡ old.journal) (after : past now ≡ new.journal) where
  from_is : length shown ≡ length old.journal
  from_is = sym (length-past shown) ∙ ap length before

  -- what an upkeep with such an answer made
  by_answer : (answer : Upkeep) → IsTold answer → IsUpkept old new answer → (old.under_way ≡ []) × (Maintains old new × IsCause new.given (length old.journal) new.journal answer)
  by_answer answer (inl is) upkept = let u = subst (IsUpkept old new) is upkept in (u.0, (u.1, subst (IsCause new.given (length old.journal) new.journal) (sym is) u.2))
  by_answer answer (inr (inl is)) upkept = let u = subst (IsUpkept old new) is.1 upkept in (u.0, (u.1, subst (IsCause new.given (length old.journal) new.journal) (sym is.1) u.2))
  by_answer answer (inr (inr is)) upkept = let u = subst (IsUpkept old new) is.1 upkept in (u.0, (u.1, subst (IsCause new.given (length old.journal) new.journal) (sym is.1) u.2))

  pub span_told : (answer : Upkeep) → IsTold answer → (IsUndisturbed old new → (answer ≡ Rested) ⊎ (answer ≡ NoMemory)) → IsUpkept old new answer → IsSpan (span_from shown now answer) old new
  span_told answer told rests upkept = let u = by_answer answer told upkept in record {
    pass = u.1.0;
    from = from_is;
    to = sym (length-past now) ∙ ap length after;
    cause = subst (λ n. IsCause new.given n new.journal answer) (sym from_is) u.1.1;
    rests = λ calm. remembers answer told (rests (calm_is old new u.0 calm));
    run = λ is. (subst (IsUpkept old new) is upkept).4;
    at_rest = λ is. (subst (IsUpkept old new) is upkept).5;
  }

-- and its pass went in order
told_passed : (old new : LaneValue) (answer : Upkeep) → IsTold answer → HasPassed old new answer → MakesPass old.lane old.rules old.journal new.journal new.given
told_passed old new answer (inl is) m = subst (HasPassed old new) is m
told_passed old new answer (inr (inl is)) m = subst (HasPassed old new) is.1 m
told_passed old new answer (inr (inr is)) m = subst (HasPassed old new) is.1 m

pub pass_told : (old new : LaneValue) (span : UpkeepSpan) (answer : Upkeep) → IsTold answer → HasPassed old new answer → IsSpan span old new → IsPassed span old new
pass_told old new span answer told m is = record { spans = is; passes = told_passed old new answer told m }
