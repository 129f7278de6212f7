-- Why a line got too few answers.
use Rattle.std.proofs.Common.{◌≡◌, ℕ, false, List, ◌∷◌, ◌++◌, Option, None, Some, is_some, inl, inr, refl, sym, ap, ◌∙◌, subst}
use Rattle.std.specs.Option.{IsSome}
use Rattle.bucket_ids.specs.Buckets.{Low}
use Rattle.stamps.specs.declared.stamp.Stamp.{Stamp}
use Rattle.carriers.specs.declared.fate.Fate.{Fate}
use Rattle.distributor_part.specs.declared.rules.Rules.{Rules}
use Rattle.messages.specs.declared.operation.Operation.{Operation}
use Rattle.messages.specs.declared.outcome.Outcome.TheVariants.{TooFew, OwnedElsewhere, NoMemory}
use Rattle.lane_journals.specs.Readers.{Message, sent, returned}
use Rattle.lane_journals.specs.Meanings.{history}
use Rattle.lane_journals.specs.KeptJournals.{IsLegal}
use Rattle.lane_journals.specs.declared.event.LaneEvent.{LaneEvent}
use Rattle.lane_journals.specs.declared.event.LaneEvent.TheVariants.{Closed}
use Rattle.lane_carriage.specs.Carriage.{IsCarried}
use Rattle.lane_carriage.specs.Readers.{fate_of, is_returned}
use Rattle.lane_completeness.specs.Causes.{IsMissing, IsLost, ReturnInTurn, IsRunLine, IsRunLineSince}
use Rattle.operation_keeping.specs.RuleBounds.{AreRules}
use Rattle.lane_keeping.specs.LaneKeeping.{setting_of}
use Rattle.operation_keeping.specs.Wants.{IsEnd}
use Rattle.lane_calls.specs.LaneValues.{drawn}
use Rattle.lane_lives.specs.declared.setting.Setting.{Setting}
use Rattle.lane_calls.specs.Lines.{RunsTo, begun_at}
use Rattle.lane_lives.specs.Lives.{Deed, IsLife, lines_of, AreAlone}
use Rattle.lane_calls.specs.Readings.{outcome_in}
use Rattle.lane_promises.specs.Promises.{LineFellShort}
use Rattle.lane_promises.proofs.Before.{legal_tail}
use Rattle.lane_promises.proofs.CarriedBefore.{IsCarriedThen, carried_then, fate_then}
use Rattle.lane_promises.proofs.Ends.{Arrival, Ending, Ran, Was, Went, WasAlone, WasEnded, ended_by}

-- ---- what is known of operations and of messages

abbrev pub AllMissing : Type 0
AllMissing = (lane : Low) (rules : Rules) → AreRules rules → (line d v : ℕ) (o : Operation) (stamp : Option Stamp) (J K : List LaneEvent) (answered needed absent : ℕ)
    → IsRunLine lane rules line d v o stamp J K (TooFew answered needed absent) → IsMissing (history K) line absent

-- of an operation whose search began with a later journal
abbrev pub AllMissingSince : Type 0
AllMissingSince = (lane : Low) (rules : Rules) → AreRules rules → (line d v : ℕ) (o : Operation) (stamp : Option Stamp) (J F K : List LaneEvent) (answered needed absent : ℕ)
    → IsRunLineSince lane rules line d v o stamp J F K (TooFew answered needed absent) → IsMissing (history K) line absent

pub record Laws : Type 0 where
  pub missing : AllMissing
  pub missing_since : AllMissingSince
  pub in_turn : (given : List Fate) (J K : List LaneEvent) → IsCarried given K → ReturnInTurn J K
  pub lost : (given : List Fate) (K : List LaneEvent) (number : ℕ) → IsCarried given K → returned number (history K) ≡ false → IsLost given K number
  pub unsent : (given : List Fate) (J : List LaneEvent) → IsCarried given J → (k : ℕ) → fate_of k given ≡ None → sent k (history J) ≡ None

pub not_cut : {a n x : ℕ} → TooFew a n x ≡ NoMemory → ⊥
not_cut e = cc e

pub not_refused : {o v a n x : ℕ} → OwnedElsewhere o v ≡ TooFew a n x → ⊥
not_refused e = cc e

-- a message that was sent has a fate
pub has_fate : (l : Laws) (given : List Fate) (J : List LaneEvent) → IsCarried given J → (k : ℕ) (m : Message) → sent k (history J) ≡ Some m → (o : Option Fate) → fate_of k given ≡ o → IsSome (fate_of k given)
has_fate l given J carried k m is None none = cc (sym (l.unsent given J carried k none) ∙ is)
has_fate l given J carried k m is (Some f) some = ap is_some some

-- ---- one line

module _ (l : Laws) (s : Setting) (are : AreRules s.rules) (lane : Low) (deeds : List Deed) (J : List LaneEvent) (given : List Fate) (legal : IsLegal (setting_of lane s.rules) J) (carried : IsCarried given J) (number answered needed absent : ℕ)
    (w : WasEnded s lane deeds J number (TooFew answered needed absent)) where
  module _ (a : Arrival lane s.rules w.line w.before w.after) (is : (a.run).outcome ≡ TooFew answered needed absent) where
    abbrev run : List LaneEvent
    run = (a.run).run

    abbrev start : List LaneEvent
    start = begun_at w.line a.distributor a.state a.heard

    -- the line's close
    event : J ≡ (w.grown).0 ++ Closed number (TooFew answered needed absent) ∷ run
    event = (w.grown).1 ∙ ap (λ L. (w.grown).0 ++ L) ((a.run).closed ∙ ap (λ n. Closed n (a.run).outcome ∷ run) w.number_is ∙ ap (λ x. Closed number x ∷ run) is)

    then : IsCarriedThen given run
    then = carried_then given J carried (w.grown).0 (Closed number (TooFew answered needed absent)) run tt event

    ran_legal : IsLegal (setting_of lane s.rules) run
    ran_legal = (legal_tail (setting_of lane s.rules) (w.grown).0 _ (subst (IsLegal (setting_of lane s.rules)) event legal)).0

    missing_by : RunsTo lane s.rules (w.line).number (w.line).operation start run (a.run).outcome → IsMissing (history run) (w.line).number absent
    missing_by (inl r) = l.missing lane s.rules are (w.line).number a.distributor (a.state).version (w.line).operation (drawn ((w.line).operation).kind (a.state).version a.heard) a.heard run answered needed absent (record {
      legal = ran_legal;
      run = r.0;
      in_turn = l.in_turn then.first start run then.carried;
      end = subst (λ x. IsEnd lane s.rules (w.line).number (w.line).operation run x) is r.1;
    })
    missing_by (inr r) = absurd (not_cut (sym is ∙ r.1))

    missing : IsMissing (history run) number absent
    missing = subst (λ n. IsMissing (history run) n absent) w.number_is (missing_by (a.run).runs)

    lost : returned missing.number (history run) ≡ false → IsLost given run missing.number
    lost none = by_loss (l.lost then.first run missing.number then.carried none)
      where
        same : fate_of missing.number given ≡ fate_of missing.number then.first
        same = fate_then missing.number given run then (has_fate l then.first run then.carried missing.number missing.message missing.was_sent (fate_of missing.number then.first) refl)

        by_loss : IsLost then.first run missing.number → IsLost given run missing.number
        by_loss (inl f) = inl (ap is_returned same ∙ f)
        by_loss (inr r) = inr r

    pub fell_short : LineFellShort given (lines_of deeds) J number answered needed absent
    fell_short = record {
      line = w.line;
      place = w.place;
      among = w.among;
      number_is = w.number_is;
      run = run;
      later = (w.grown).0;
      event = event;
      missing = missing;
      lost = lost;
    }

  by_ending : (e : Ending lane s.rules w.line w.before w.after (TooFew answered needed absent)) → WasAlone lane s.rules w.line w.before w.after (TooFew answered needed absent) e → LineFellShort given (lines_of deeds) J number answered needed absent
  by_ending (Ran a is) alone = fell_short a is
  by_ending (Was r is) alone = absurd (not_refused is)
  by_ending (Went ended is) alone = absurd alone

pub short_with_cause : Laws → (s : Setting) → AreRules s.rules → (lane : Low) (deeds : List Deed) (J : List LaneEvent) (given : List Fate) → IsLife s lane deeds J → AreAlone deeds → IsLegal (setting_of lane s.rules) J → IsCarried given J
    → (number answered needed absent : ℕ) → outcome_in number J ≡ Some (TooFew answered needed absent) → LineFellShort given (lines_of deeds) J number answered needed absent
short_with_cause l s are lane deeds J given life alone legal carried number answered needed absent h =
    let w = ended_by s lane deeds J life number (TooFew answered needed absent) h in
    by_ending l s are lane deeds J given legal carried number answered needed absent w w.ending (w.alone alone)
