-- A line that ended since another distributor owns the lane was refused.
use Rattle.std.proofs.Common.{◌≡◌, ℕ, List, ◌∷◌, ◌++◌, Some, sym, ap, ◌∙◌, subst}
use Rattle.bucket_ids.specs.Buckets.{Low}
use Rattle.ideal_nodes.specs.Placement.{IsOwner}
use Rattle.messages.specs.declared.outcome.Outcome.TheVariants.{OwnedElsewhere}
use Rattle.lane_journals.specs.Endings.{MayEnd}
use Rattle.lane_journals.specs.Places.{state_in}
use Rattle.lane_journals.specs.KeptJournals.{IsLegal}
use Rattle.lane_journals.specs.declared.event.LaneEvent.{LaneEvent}
use Rattle.lane_journals.specs.declared.event.LaneEvent.TheVariants.{Refused, Closed}
use Rattle.lane_keeping.specs.LaneKeeping.{setting_of}
use Rattle.lane_lives.specs.declared.setting.Setting.{Setting}
use Rattle.lane_lives.specs.Lives.{Deed, IsLife, lines_of}
use Rattle.lane_calls.specs.Readings.{outcome_in}
use Rattle.lane_promises.specs.Promises.{WasRefused}
use Rattle.lane_promises.proofs.Before.{legal_tail}
use Rattle.lane_promises.proofs.Ends.{Arrival, Refusal, Ending, Ran, Was, Went, WasEnded, ended_by}

same_owner : {a b v w : ℕ} → OwnedElsewhere a v ≡ OwnedElsewhere b w → a ≡ b
same_owner e = cc

same_version : {a b v w : ℕ} → OwnedElsewhere a v ≡ OwnedElsewhere b w → v ≡ w
same_version e = cc

module _ (s : Setting) (lane : Low) (deeds : List Deed) (J : List LaneEvent) (legal : IsLegal (setting_of lane s.rules) J) (number owner version : ℕ) (w : WasEnded s lane deeds J number (OwnedElsewhere owner version)) where
  -- a line that ran ended otherwise
  not_run : (a : Arrival lane s.rules w.line w.before w.after) → (a.run).outcome ≡ OwnedElsewhere owner version → ⊥
  not_run a is =
      let after : IsLegal (setting_of lane s.rules) w.after = legal_tail (setting_of lane s.rules) (w.grown).0 w.after (subst (IsLegal (setting_of lane s.rules)) (w.grown).1 legal) in
      let closing : IsLegal (setting_of lane s.rules) (Closed (w.line).number (a.run).outcome ∷ (a.run).run) = subst (IsLegal (setting_of lane s.rules)) (a.run).closed after in
      let ended = closing.1.ended in
      subst (MayEnd (setting_of lane s.rules) (a.run).run (w.line).number ended.0) is ended.2

  not_closed : w.after ≡ Closed (w.line).number (OwnedElsewhere owner version) ∷ w.before → ⊥
  not_closed is =
      let after : IsLegal (setting_of lane s.rules) w.after = legal_tail (setting_of lane s.rules) (w.grown).0 w.after (subst (IsLegal (setting_of lane s.rules)) (w.grown).1 legal) in
      let closing : IsLegal (setting_of lane s.rules) (Closed (w.line).number (OwnedElsewhere owner version) ∷ w.before) = subst (IsLegal (setting_of lane s.rules)) is after in
      let ended = closing.1.ended in
      ended.2

  refusal : (r : Refusal lane w.line w.before w.after) → OwnedElsewhere (r.refused).owner (r.state).version ≡ OwnedElsewhere owner version → WasRefused lane (lines_of deeds) J number owner version
  refusal r is =
      let v : (r.state).version ≡ version = same_version is in
      record {
        line = w.line;
        place = w.place;
        among = w.among;
        number_is = w.number_is;
        via = r.via;
        via_is = r.via_is;
        before = w.before;
        later = (w.grown).0;
        event = (w.grown).1 ∙ ap (λ L. (w.grown).0 ++ L) ((r.refused).refused ∙ ap (λ n. Refused n r.via (OwnedElsewhere (r.refused).owner (r.state).version) ∷ w.before) w.number_is ∙ ap (λ x. Refused number r.via x ∷ w.before) is);
        state = r.state;
        version_is = sym v;
        holds = r.holds ∙ ap Some v;
        published = subst (λ n. state_in n w.before ≡ Some r.state) v r.published;
        owns = subst (IsOwner lane r.state) (same_owner is) (r.refused).owns;
        not_owner = (r.refused).not_owner;
      }

  by_ending : Ending lane s.rules w.line w.before w.after (OwnedElsewhere owner version) → WasRefused lane (lines_of deeds) J number owner version
  by_ending (Ran a is) = absurd (not_run a is)
  by_ending (Was r is) = refusal r is
  by_ending (Went ended is) = absurd (not_closed is)

pub refused_with_cause : (s : Setting) (lane : Low) (deeds : List Deed) (J : List LaneEvent) → IsLife s lane deeds J → IsLegal (setting_of lane s.rules) J → (number owner version : ℕ)
    → outcome_in number J ≡ Some (OwnedElsewhere owner version) → WasRefused lane (lines_of deeds) J number owner version
refused_with_cause s lane deeds J life legal number owner version h = let w = ended_by s lane deeds J life number (OwnedElsewhere owner version) h in by_ending s lane deeds J legal number owner version w w.ending
