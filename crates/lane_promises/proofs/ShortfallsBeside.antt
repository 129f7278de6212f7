-- Why a line got too few answers that others may have gone on beside.
use Rattle.std.proofs.Common.{◌≡◌, ℕ, false, List, [], ◌∷◌, ◌++◌, Option, Some, inl, inr, refl, sym, ap, ◌∙◌, subst}
use Rattle.std.specs.Option.{IsSome}
use Rattle.bucket_ids.specs.Buckets.{Low}
use Rattle.carriers.specs.declared.fate.Fate.{Fate}
use Rattle.messages.specs.declared.outcome.Outcome.{Outcome}
use Rattle.messages.specs.declared.outcome.Outcome.TheVariants.{TooFew}
use Rattle.stamps.specs.declared.stamp.Stamp.{Stamp}
use Rattle.lane_journals.specs.Readers.{Message, sent, returned}
use Rattle.lane_journals.specs.Meanings.{history}
use Rattle.lane_journals.specs.KeptJournals.{IsLegal}
use Rattle.lane_journals.specs.declared.event.LaneEvent.{LaneEvent}
use Rattle.lane_journals.specs.declared.event.LaneEvent.TheVariants as event
use Rattle.lane_carriage.specs.Carriage.{IsCarried}
use Rattle.lane_carriage.specs.Readers.{fate_of, is_returned}
use Rattle.lane_completeness.specs.Causes.{IsMissing, IsLost, ReturnInTurn}
use Rattle.lane_keeping.specs.LaneKeeping.{setting_of}
use Rattle.operation_keeping.specs.Others as others
use Rattle.operation_keeping.specs.Others.{AreOthers}
use Rattle.operation_keeping.specs.RuleBounds.{AreRules}
use Rattle.lane_calls.specs.LaneValues.{drawn}
use Rattle.lane_calls.specs.Lines.{FeedLine}
use Rattle.lane_calls.specs.Courses.{HasEnded}
use Rattle.lane_calls.specs.Growth.{IsLater}
use Rattle.lane_calls.specs.Readings.{outcome_in}
use Rattle.lane_calls.proofs.Wanted.{sent-on, others-later, CameTo, Searching, Running, IsOverBy, ended-by}
use Rattle.lane_lives.specs.declared.setting.Setting.{Setting}
use Rattle.lane_lives.specs.Lives.{Deed, IsLife, lines_of}
use Rattle.lane_promises.specs.Promises.{LineFellShort, LineFellShortBeside}
use Rattle.lane_promises.proofs.Before.{legal_tail}
use Rattle.lane_promises.proofs.CarriedBefore.{IsCarriedThen, carried_then, fate_then}
use Rattle.lane_promises.proofs.Ends.{Ending, Ran, Was, Went, WasEnded, ended_by}
use Rattle.lane_promises.proofs.Shortfalls.{Laws, not_cut, not_refused, has_fate, fell_short}

-- replies came back in turn before the last events too
turn_before : (F : List LaneEvent) (e : LaneEvent) (K : List LaneEvent) → ReturnInTurn F (e ∷ K) → ReturnInTurn F K
turn_before F (event.Returned n) K t = t.0
turn_before F _ K t = t

pub turn_tail : (F M K : List LaneEvent) → ReturnInTurn F (M ++ K) → ReturnInTurn F K
turn_tail F [] K t = t
turn_tail F (e ∷ M) K t = turn_tail F M K (turn_before F e (M ++ K) t)

-- one that was alone wanted its end as it was closed
alone_beside : (given : List Fate) (s : Setting) (deeds : List Deed) (J : List LaneEvent) (number answered needed absent : ℕ) → LineFellShort given (lines_of deeds) J number answered needed absent
    → LineFellShortBeside given (lines_of deeds) J number answered needed absent
alone_beside given s deeds J number answered needed absent f = record {
  line = f.line;
  place = f.place;
  among = f.among;
  number_is = f.number_is;
  moment = f.run;
  run = f.run;
  later = f.later;
  event = f.event;
  since = others.Same;
  missing = f.missing;
  lost = f.lost;
}

module _ (l : Laws) (s : Setting) (are : AreRules s.rules) (lane : Low) (deeds : List Deed) (J : List LaneEvent) (given : List Fate) (legal : IsLegal (setting_of lane s.rules) J) (carried : IsCarried given J) (number answered needed absent : ℕ)
    (w : WasEnded s lane deeds J number (TooFew answered needed absent)) where
  abbrev few : Outcome
  few = TooFew answered needed absent

  abbrev line : FeedLine
  line = w.line

  abbrev run : List LaneEvent
  run = w.before

  module _ (closed : w.after ≡ event.Closed line.number few ∷ w.before) where
    -- the line's close
    close : J ≡ (w.grown).0 ++ event.Closed number few ∷ run
    close = (w.grown).1 ∙ ap (λ (L : List LaneEvent). (w.grown).0 ++ L) (closed ∙ ap (λ (n : ℕ). event.Closed n few ∷ run) w.number_is)

    then : IsCarriedThen given run
    then = carried_then given J carried (w.grown).0 (event.Closed number few) run tt close

    ran_legal : IsLegal (setting_of lane s.rules) run
    ran_legal = (legal_tail (setting_of lane s.rules) (w.grown).0 _ (subst (IsLegal (setting_of lane s.rules)) close legal)).0

    module _ (b : IsOverBy lane s.rules line run few) where
      -- what came since it wanted to end
      after : IsLater b.moment run
      after = others-later lane s.rules line b.moment run b.since

      moment_legal : IsLegal (setting_of lane s.rules) b.moment
      moment_legal = legal_tail (setting_of lane s.rules) after.added b.moment (subst (IsLegal (setting_of lane s.rules)) after.is ran_legal)

      turn_to : (F : List LaneEvent) → ReturnInTurn F b.moment
      turn_to F = turn_tail F after.added b.moment (subst (ReturnInTurn F) after.is (l.in_turn then.first F run then.carried))

      abbrev d : ℕ
      d = (b.begun).distributor

      abbrev v : ℕ
      v = ((b.begun).state).version

      abbrev stamp : Option Stamp
      stamp = drawn line.operation.kind v b.start

      abbrev first : List LaneEvent
      first = event.Begun line.number d v line.operation.id stamp ∷ b.start

      begun : b.event ∷ b.start ≡ first
      begun = ap (λ (e : LaneEvent). e ∷ b.start) (b.begun).event

      by_course : CameTo lane s.rules line first b.moment few → IsMissing (history b.moment) line.number absent
      by_course (Searching from early ran end) = l.missing_since lane s.rules are line.number d v line.operation stamp b.start from b.moment answered needed absent (record {
        legal = moment_legal;
        early = early.added;
        begun = early.is;
        run = ran;
        in_turn = turn_to from;
        end = end;
      })
      by_course (Running ran end) = l.missing lane s.rules are line.number d v line.operation stamp b.start b.moment answered needed absent (record {
        legal = moment_legal;
        run = ran;
        in_turn = turn_to first;
        end = end;
      })

      missing : IsMissing (history b.moment) number absent
      missing = subst (λ (n : ℕ). IsMissing (history b.moment) n absent) w.number_is (by_course (subst (λ (F : List LaneEvent). CameTo lane s.rules line F b.moment few) begun b.came))

      -- the message was sent as the line was closed, and its reply didn't come meanwhile
      sent_then : sent missing.number (history run) ≡ Some missing.message
      sent_then = ap (λ (L : List LaneEvent). sent missing.number (history L)) after.is ∙ sent-on after.added b.moment missing.number missing.message missing.was_sent

      unheard_then : returned missing.number (history b.moment) ≡ false → returned missing.number (history run) ≡ false
      unheard_then none = b.settled missing.number (subst (λ (o : Option Message). IsSome o) (sym missing.was_sent) refl) ∙ none

      lost : returned missing.number (history b.moment) ≡ false → IsLost given run missing.number
      lost none = by_loss (l.lost then.first run missing.number then.carried (unheard_then none))
        where
          same : fate_of missing.number given ≡ fate_of missing.number then.first
          same = fate_then missing.number given run then (has_fate l then.first run then.carried missing.number missing.message sent_then (fate_of missing.number then.first) refl)

          by_loss : IsLost then.first run missing.number → IsLost given run missing.number
          by_loss (inl f) = inl (ap is_returned same ∙ f)
          by_loss (inr r) = inr r

      fell_beside : LineFellShortBeside given (lines_of deeds) J number answered needed absent
      fell_beside = record {
        line = w.line;
        place = w.place;
        among = w.among;
        number_is = w.number_is;
        moment = b.moment;
        run = run;
        later = (w.grown).0;
        event = close;
        since = subst (λ (n : ℕ). AreOthers n line.operation.id b.moment run) w.number_is b.since;
        missing = missing;
        lost = lost;
      }

    by_end : HasEnded lane s.rules line run few → LineFellShortBeside given (lines_of deeds) J number answered needed absent
    by_end ended = elim (ended-by lane s.rules line run few ended) [
      | inl b ↦ fell_beside b
      | inr none ↦ absurd (not_cut none)
    ]

  by_ending : Ending lane s.rules w.line w.before w.after few → LineFellShortBeside given (lines_of deeds) J number answered needed absent
  by_ending (Ran a is) = alone_beside given s deeds J number answered needed absent (fell_short l s are lane deeds J given legal carried number answered needed absent w a is)
  by_ending (Was r is) = absurd (not_refused is)
  by_ending (Went ended is) = by_end is ended

pub short_beside : Laws → (s : Setting) → AreRules s.rules → (lane : Low) (deeds : List Deed) (J : List LaneEvent) (given : List Fate) → IsLife s lane deeds J → IsLegal (setting_of lane s.rules) J → IsCarried given J
    → (number answered needed absent : ℕ) → outcome_in number J ≡ Some (TooFew answered needed absent) → LineFellShortBeside given (lines_of deeds) J number answered needed absent
short_beside l s are lane deeds J given life legal carried number answered needed absent h =
    let w = ended_by s lane deeds J life number (TooFew answered needed absent) h in
    by_ending l s are lane deeds J given legal carried number answered needed absent w w.ending
