-- How the operation under way may end.
use Rattle.std.proofs.Common.{◌≡◌, ℕ, true, List, Option, Some, slice_get, sym, subst, ◌∙◌}
use Rattle.bucket_ids.specs.Buckets.{Low, IsIn}
use Rattle.distributor_part.specs.declared.rules.Rules.{Rules}
use Rattle.lane_journals.specs.declared.event.LaneEvent.{LaneEvent}
use Rattle.node_sets.specs.Members.{has_node}
use Rattle.stamps.specs.declared.stamp.Stamp.{Stamp}
use Rattle.messages.specs.declared.outcome.Outcome.{Outcome}
use Rattle.messages.specs.declared.outcome.Outcome.TheVariants.{Acked, Nothing, Found, Missing, ConditionFailed, BadUpdate, TooFew, OwnedElsewhere, NoMemory}
use Rattle.lane_journals.specs.Readers.{began, complete, answered_store}
use Rattle.lane_journals.specs.Meanings.{history}
use Rattle.lane_journals.specs.KeptJournals.{IsLegalStep}
use Rattle.lane_journals.specs.declared.event.LaneEvent.TheVariants.{Closed}
use Rattle.lane_keeping.specs.LaneKeeping.{setting_of}
use Rattle.lane_states.specs.declared.lane_state.LaneState.{LaneState}
use Rattle.lane_states.specs.LaneStates.{journal_of}
use Rattle.lane_lines.specs.Closing.{MayEndWith}
use Rattle.lane_core.specs.declared.work.Job.{Job}
use Rattle.lane_core.specs.declared.work.Phase.{Phase}
use Rattle.lane_core.specs.declared.work.Phase.TheVariants.{Begun, Prepared, Over, Short}
use Rattle.lane_calls.specs.LaneValues.{EndsAs}
use Rattle.lane_core.specs.Works.{progress_of, IsJob, PhaseKeeps, PhaseEnds, MayMark, IsEndedBy, AreJobs, HasJobToClose, IsToClosePhase}
use Rattle.lane_core.proofs.Working.{same-key}
use Rattle.lane_core.proofs.Places.{get-one}

module _ (x : LaneState) (j : Job) (k : IsJob x.lane x.rules (journal_of x) j) where
  may-over : (answered : ℕ) (o : Outcome) → IsLegalStep (setting_of x.lane x.rules) (journal_of x) (Closed j.line o) → MayMark (history (journal_of x)) j k.state answered o
      → MayEndWith x j.line j.distributor j.key o answered
  may-over answered (Acked stamp) legal marks = record {
    state = k.state;
    acting = k.acting;
    opened_is = marks.opened_is;
    id = j.operation.id;
    begun = subst (λ (t : Option Stamp). began j.line (history (journal_of x)) ≡ Some (record { distributor = j.distributor; version = k.state.version; id = j.operation.id; stamp = t })) marks.stamped k.under_way.begun_as;
    key_is = k.key_is ∙ same-key j.operation.id;
    in_lane = subst (λ (n : ℕ). IsIn x.lane n) (sym (k.key_is ∙ same-key j.operation.id)) k.key_in;
    answers = subst (λ (key : ℕ). (n : ℕ) → complete k.state.version n key (history (journal_of x)) ≡ true → has_node answered n ≡ answered_store k.state.version j.operation.id stamp n (history (journal_of x)))
        (sym (k.key_is ∙ same-key j.operation.id)) marks.answers;
    legal = legal;
  }
  may-over answered (Nothing y) legal marks = legal
  may-over answered (Found y) legal marks = legal
  may-over answered (Missing y) legal marks = legal
  may-over answered (ConditionFailed y) legal marks = legal
  may-over answered (BadUpdate y) legal marks = legal
  may-over answered (TooFew a b y) legal marks = legal
  may-over answered (OwnedElsewhere a b) legal marks = legal
  may-over answered NoMemory legal marks = legal

  by_phase : (p : Phase) (o told : Outcome) (answered : ℕ) → PhaseKeeps x.lane x.rules (journal_of x) j k.state p → PhaseEnds p o told answered → IsLegalStep (setting_of x.lane x.rules) (journal_of x) (Closed j.line NoMemory)
      → MayEndWith x j.line j.distributor j.key o answered
  by_phase Begun o told answered h e gives = absurd e
  by_phase (Prepared machine row written) o told answered h e gives = absurd e
  by_phase (Over outcome copy set) o told answered h e gives =
      subst (λ (y : Outcome). MayEndWith x j.line j.distributor j.key y answered) (sym e.0)
      (subst (λ (n : ℕ). MayEndWith x j.line j.distributor j.key outcome n) (sym e.1.1) (may-over set outcome h.legal h.marks))
  by_phase Short o told answered h e gives = subst (λ (y : Outcome). MayEndWith x j.line j.distributor j.key y answered) (sym e.0) gives

  pub may-close : (line d key : ℕ) (o told : Outcome) (answered : ℕ) → IsEndedBy j line d key o told answered → IsLegalStep (setting_of x.lane x.rules) (journal_of x) (Closed j.line NoMemory)
      → MayEndWith x line d key o answered
  may-close line d key o told answered e gives =
      subst (λ (n : ℕ). MayEndWith x n d key o answered) (sym e.line_is)
      (subst (λ (n : ℕ). MayEndWith x j.line n key o answered) (sym e.distributor_is)
      (subst (λ (n : ℕ). MayEndWith x j.line j.distributor n o answered) (sym e.key_is)
      (by_phase j.phase o told answered k.phase_is e.ends gives)))

  -- the outcome that the caller is told
  told_by : (p : Phase) (o told : Outcome) (answered : ℕ) → PhaseKeeps x.lane x.rules (journal_of x) j k.state p → PhaseEnds p o told answered → (told ≡ o) × EndsAs (progress_of p) told
  told_by Begun o told answered h e = absurd e
  told_by (Prepared machine row written) o told answered h e = absurd e
  told_by (Over outcome copy set) o told answered h e =
      let same : told ≡ outcome = e.1.0 ∙ h.same in
      (same ∙ sym e.0, same)
  told_by Short o told answered h e = (e.1 ∙ sym e.0, e.1)

  pub ends-so : (line d key : ℕ) (o told : Outcome) (answered : ℕ) → IsEndedBy j line d key o told answered → (told ≡ o) × EndsAs (progress_of j.phase) told
  ends-so line d key o told answered e = told_by j.phase o told answered k.phase_is e.ends

-- the job of the line is to be closed, wherever it is found
pub to-close : (lane : Low) (rules : Rules) (J : List LaneEvent) (jobs : List Job) (line : ℕ) → AreJobs lane rules J jobs → HasJobToClose line jobs → (at : ℕ) (j : Job) → slice_get jobs at ≡ Some j → j.line ≡ line → IsToClosePhase j.phase
to-close lane rules J jobs line are h at j found is =
    let same : h.0 ≡ at = are.lines_apart h.0 at h.1 j (h.2).found found ((h.2).line_is ∙ sym is) in
    subst (λ (z : Job). IsToClosePhase z.phase) (get-one jobs at h.1 j (subst (λ (i : ℕ). slice_get jobs i ≡ Some h.1) same (h.2).found) found) h.3
