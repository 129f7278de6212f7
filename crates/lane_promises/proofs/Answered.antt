-- What a lane answers of its lines, it goes on answering.
use Rattle.std.proofs.Common.{◌≡◌, ◌==◌, ℕ, List, [], ◌∷◌, Some, inl, inr, subst, arith}
use Rattle.documents.specs.declared.entry.Entry.{Entry}
use Rattle.messages.specs.declared.outcome.Outcome.{Outcome}
use Rattle.messages.specs.declared.outcome.Outcome.TheVariants.{Found}
use Rattle.stamps.specs.declared.stamp.Stamp.{Stamp}
use Rattle.lane_journals.specs.Meanings.{entry_at}
use Rattle.lane_journals.specs.Places.{Setting, IsElsewhere}
use Rattle.lane_journals.specs.Endings.{Ended, MayEnd}
use Rattle.lane_journals.specs.KeptJournals.{IsLegal, IsLegalStep}
use Rattle.lane_journals.specs.declared.event.LaneEvent.{LaneEvent}
use Rattle.lane_journals.specs.declared.event.LaneEvent.TheVariants as event
use Rattle.lane_journals.proofs.Basics.{or_else-some, or_else-cases, only_if-some}
use Rattle.lane_calls.specs.Readings.{outcome_in}

entry_stays : (J : List LaneEvent) (e : LaneEvent) (t : Stamp) (x : Entry) → entry_at t J ≡ Some x → entry_at t (e ∷ J) ≡ Some x
entry_stays J e t x is = grind (arith, or_else-some)

-- what was found was written
pub found_written : (S : Setting) (J : List LaneEvent) → IsLegal S J → (j : ℕ) (t : Stamp) → outcome_in j J ≡ Some (Found t) → (x : Entry) × (entry_at t J ≡ Some x)
found_written S [] legal j t h = cc
found_written S (e ∷ J) legal j t h = by_event e legal.1 (λ old. found_written S J legal.0 j t old) h
  where
    here : (e : LaneEvent) → (x : Entry) × (entry_at t J ≡ Some x) → (x : Entry) × (entry_at t (e ∷ J) ≡ Some x)
    here e old = (old.0, entry_stays J e t old.0 old.1)

    by_close : (l : ℕ) (o : Outcome) → Ended S J (event.Closed l o) → o ≡ Found t → (x : Entry) × (entry_at t J ≡ Some x)
    by_close l o ended is =
        let may = subst (λ y. MayEnd S J l ended.0 y) is ended.2 in
        ((may.2).entry, (may.2).at)

    by_event : (e : LaneEvent) → IsLegalStep S J e → (outcome_in j J ≡ Some (Found t) → (x : Entry) × (entry_at t J ≡ Some x)) → outcome_in j (e ∷ J) ≡ Some (Found t) → (x : Entry) × (entry_at t (e ∷ J) ≡ Some x)
    by_event (event.Closed l o) step old h = here (event.Closed l o) (elim (or_else-cases (outcome_in j J) _ (Found t) h) [
      | inl before ↦ old before
      | inr now ↦ by_close l o step.ended ((only_if-some (l == j) o (Found t) now.1).1)
    ])
    by_event (event.Refused l d o) step old h = here (event.Refused l d o) (elim (or_else-cases (outcome_in j J) _ (Found t) h) [
      | inl before ↦ old before
      | inr now ↦ absurd (subst (IsElsewhere S J d) ((only_if-some (l == j) o (Found t) now.1).1) step.placed)
    ])
    by_event (event.Published s) step old h = here (event.Published s) (old h)
    by_event (event.Heard d v) step old h = here (event.Heard d v) (old h)
    by_event (event.Begun l d v id s) step old h = here (event.Begun l d v id s) (old h)
    by_event (event.Opened d v rows) step old h = here (event.Opened d v rows) (old h)
    by_event (event.Prepared l b set) step old h = here (event.Prepared l b set) (old h)
    by_event (event.Wrote l entry) step old h = here (event.Wrote l entry) (old h)
    by_event (event.Sent k v d n b) step old h = here (event.Sent k v d n b) (old h)
    by_event (event.Delivered k r) step old h = here (event.Delivered k r) (old h)
    by_event (event.Returned k) step old h = here (event.Returned k) (old h)
    by_event (event.Decided d v x) step old h = here (event.Decided d v x) (old h)
    by_event (event.Stopped n) step old h = here (event.Stopped n) (old h)
    by_event (event.Started n) step old h = here (event.Started n) (old h)
