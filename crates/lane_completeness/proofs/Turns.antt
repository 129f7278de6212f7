-- Replies come back in turn: in a line that is undisturbed, and in the same way before the last event.
use Rattle.std.proofs.Common.{◌≡◌, ◌⊎◌, ℕ, Bool, true, false, List, [], ◌∷◌, Some, None, inl, inr, refl, sym, ap, ◌∙◌}
use mathlib.Core.Bool.{true≢false}
use Rattle.lane_journals.specs.Readers.{Message, sent, returned}
use Rattle.lane_journals.specs.States.{state_of}
use Rattle.lane_journals.specs.Meanings.{history, meaning}
use Rattle.lane_journals.specs.Places.{Setting}
use Rattle.lane_journals.specs.KeptJournals.{IsLegal}
use Rattle.lane_journals.specs.declared.event.LaneEvent.{LaneEvent}
use Rattle.lane_journals.specs.declared.event.LaneEvent.TheVariants as event
use Rattle.lane_journals.proofs.Basics.{sent-cases, returned-stays, replied-sent}
use Rattle.lane_journals.proofs.Meant.{meant-legal}
use Rattle.operation_keeping.specs.Wants.{IsCarriage}
use Rattle.lane_completeness.specs.Completeness.{HaveReturned, InTurn}
use Rattle.lane_completeness.specs.Causes.{just_sent, ReturnInTurn}

pub turn-before : (J : List LaneEvent) (e : LaneEvent) (L : List LaneEvent) → ReturnInTurn J (e ∷ L) → ReturnInTurn J L
turn-before J (event.Returned n) L t = t.0
turn-before J _ L t = t

module _ (J : List LaneEvent) where
  -- what isn't returned yet is the message that was sent last
  unreturned-last : (L : List LaneEvent) → InTurn J L → (k : ℕ) (m : Message) → sent k (history L) ≡ Some m → sent k (history J) ≡ None → returned k (history L) ≡ false → just_sent L ≡ Some k
  unreturned-last [] t k m was late back = cc
  unreturned-last (e ∷ L) t k m was late back = by_event e t.1 was back (unreturned-last L t.0 k m)
    where
      old-back : (e : LaneEvent) → returned k (history (e ∷ L)) ≡ false → returned k (history L) ≡ false
      old-back e back = by_test (returned k (history L)) refl
        where
          by_test : (t : Bool) → returned k (history L) ≡ t → returned k (history L) ≡ false
          by_test true f = absurd (true≢false (sym (returned-stays k (history L) (meaning L e) f) ∙ back))
          by_test false f = f

      stops : {A : Type 0} (e : LaneEvent) → HaveReturned J L → sent k (history L) ≡ Some m → returned k (history (e ∷ L)) ≡ false → A
      stops e all was back = absurd (true≢false (sym (all k m was late) ∙ old-back e back))

      by_event : (e : LaneEvent) → IsCarriage e ⊎ HaveReturned J L → sent k (history (e ∷ L)) ≡ Some m → returned k (history (e ∷ L)) ≡ false
          → (sent k (history L) ≡ Some m → sent k (history J) ≡ None → returned k (history L) ≡ false → just_sent L ≡ Some k) → just_sent (e ∷ L) ≡ Some k
      by_event (event.Sent n v d to b) (inl c) was back ih = absurd c
      by_event (event.Sent n v d to b) (inr all) was back ih = elim (sent-cases k (history L) (meaning L (event.Sent n v d to b)) m was) [
        | inl old ↦ stops (event.Sent n v d to b) all old back
        | inr new ↦ (let is = new.is in let same : n ≡ k = cc in ap (λ (x : ℕ). Some x) same)
      ]
      by_event (event.Delivered n r) x was back ih = ih was late back
      by_event (event.Returned n) x was back ih = ih was late (old-back (event.Returned n) back)
      by_event e (inl c) was back ih = absurd c
      by_event e (inr all) was back ih = stops e all was back

  -- an undisturbed line
  pub undisturbed-turn : (S : Setting) (L : List LaneEvent) → IsLegal S L → InTurn J L → ReturnInTurn J L
  undisturbed-turn S [] l t = tt
  undisturbed-turn S (e ∷ L) l t = by_event e l (undisturbed-turn S L l.0 t.0)
    where
      by_event : (e : LaneEvent) → IsLegal S (e ∷ L) → ReturnInTurn J L → ReturnInTurn J (e ∷ L)
      by_event (event.Returned n) l ih = (
        ih,
        λ late. let may = (l.1).permitted in let x = replied-sent S.acks (state_of (history L)) (history L) (meant-legal S L l.0) n may.reply may.replied in
            unreturned-last L t.0 n x.0 x.1 late may.once,
      )
      by_event _ l ih = ih
