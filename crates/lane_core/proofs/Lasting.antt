-- What others' events leave of an operation under way.
use Rattle.std.proofs.Common.{◌≡◌, ℕ, true, List, sym, ◌∙◌, subst, refl}
use Rattle.bucket_ids.specs.Buckets.{Low}
use Rattle.stamps.specs.declared.stamp.Stamp.{Stamp}
use Rattle.cluster_states.specs.declared.cluster_state.ClusterState.{ClusterState}
use Rattle.messages.specs.declared.outcome.Outcome.{Outcome}
use Rattle.messages.specs.declared.outcome.Outcome.TheVariants.{Acked, Nothing, Found, Missing, ConditionFailed, BadUpdate, TooFew, OwnedElsewhere, NoMemory}
use Rattle.distributor_part.specs.declared.rules.Rules.{Rules}
use Rattle.lane_journals.specs.Buckets.{contains, key_of}
use Rattle.lane_journals.specs.Facts.{IsOpen}
use Rattle.lane_journals.specs.Readers.{Beginning, Preparing}
use Rattle.lane_journals.specs.States.{state_of}
use Rattle.lane_journals.specs.Meanings.{history}
use Rattle.lane_journals.specs.KeptJournals.{IsLegal, IsLegalStep}
use Rattle.lane_journals.specs.declared.event.LaneEvent.{LaneEvent}
use Rattle.lane_journals.specs.declared.event.LaneEvent.TheVariants.{Closed}
use Rattle.lane_journals.proofs.Meant.{meant-legal}
use Rattle.lane_journals.proofs.Rows.{was-prepared}
use Rattle.lane_keeping.specs.LaneKeeping.{setting_of}
use Rattle.operation_keeping.specs.OperationKeeping.{IsUnderWay, beginning_of}
use Rattle.operation_keeping.specs.Others.{AreOthers}
use Rattle.operation_keeping.proofs.Others.{prepared-lasts, wrote-lasts, opened-lasts, answered-lasts, complete-lasts, under_way-lasts, acting-lasts, at-standing-lasts, closing-lasts}
use Rattle.proof_basics.proofs.Options.{some_same as some-same}
use Rattle.lane_core.specs.declared.work.Job.{Job}
use Rattle.lane_core.specs.declared.work.Phase.{Phase}
use Rattle.lane_core.specs.declared.work.Phase.TheVariants as phase
use Rattle.lane_core.specs.Works.{IsAnswered, MayMark, IsItsRow, PhaseKeeps, IsJob}

module _ (lane : Low) (rules : Rules) (J K : List LaneEvent) (before : IsLegal (setting_of lane rules) J) (legal : IsLegal (setting_of lane rules) K) (j : Job) (a : AreOthers j.line j.operation.id J K) where
  module _ (s : ClusterState) (u : IsUnderWay lane (history J) j.distributor s j.line j.operation j.stamp) where
    answered : (set : ℕ) (stamp : Stamp) → IsLegalStep (setting_of lane rules) J (Closed j.line (Acked stamp)) → IsAnswered (history J) j s stamp set → IsAnswered (history K) j s stamp set
    answered set stamp step h =
        let ack = (step.permitted).acked refl in
        let p : Preparing = ack.preparing in
        let was = was-prepared rules.acks (state_of (history J)) (history J) (meant-legal (setting_of lane rules) J before) j.line p ack.was_prepared in
        let b : Beginning = beginning_of j.distributor s j.operation j.stamp in
        let same : was.begin ≡ b = some-same was.begin b (sym was.begun ∙ u.begun_as) in
        let inside : contains p.row (key_of b.id) ≡ true = subst (λ (z : Beginning). contains p.row (key_of z.id) ≡ true) same was.inside in
        let open_line : IsOpen s.version j.line b p (history J) = record { began = u.begun_as; version = refl; prepared = ack.was_prepared; unclosed = u.unclosed } in
        record {
          stamped = h.stamped;
          opened_is = opened-lasts j.line j.operation.id J K a s.version h.opened_is;
          answers = λ n full. h.answers n (complete-lasts (setting_of lane rules) j.line b p s.version J K a legal open_line (key_of j.operation.id) inside n full) ∙ sym (answered-lasts j.line j.operation.id J K a s.version n stamp);
        }

    marks : (set : ℕ) (x : Outcome) → IsLegalStep (setting_of lane rules) J (Closed j.line x) → MayMark (history J) j s set x → MayMark (history K) j s set x
    marks set (Acked stamp) step h = answered set stamp step h
    marks set (Nothing x) step h = tt
    marks set (Found x) step h = tt
    marks set (Missing x) step h = tt
    marks set (ConditionFailed x) step h = tt
    marks set (BadUpdate x) step h = tt
    marks set (TooFew x y z) step h = tt
    marks set (OwnedElsewhere x y) step h = tt
    marks set NoMemory step h = tt

    phase-lasts : (p : Phase) → PhaseKeeps lane rules J j s p → PhaseKeeps lane rules K j s p
    phase-lasts phase.Begun h = record {
      unprepared = prepared-lasts j.line j.operation.id J K a ∙ h.unprepared;
      unwritten = wrote-lasts j.line j.operation.id J K a ∙ h.unwritten;
      stamped = h.stamped;
    }
    phase-lasts (phase.Prepared t row written) h = record {
      entry = h.entry;
      stands = at-standing-lasts lane rules J K j.distributor s j.line j.operation row h.entry t a legal h.stands;
      same_stamp = h.same_stamp;
      written_is = h.written_is;
    }
    phase-lasts (phase.Over x told set) h = record {
      same = h.same;
      legal = closing-lasts (setting_of lane rules) j.line (beginning_of j.distributor s j.operation j.stamp) J K a legal u.begun_as u.unclosed x h.legal;
      marks = marks set x h.legal h.marks;
    }
    phase-lasts phase.Short h = tt

  pub job-lasts : IsJob lane rules J j → IsJob lane rules K j
  job-lasts k = record {
    state = k.state;
    acting = acting-lasts lane rules J K j.distributor k.state j.line j.operation j.stamp a legal k.under_way k.acting;
    under_way = under_way-lasts lane rules J K j.distributor k.state j.line j.operation j.stamp a k.under_way;
    key_is = k.key_is;
    key_in = k.key_in;
    own = k.own;
    plain = k.plain;
    row_is = subst (IsItsRow j.row) (sym (prepared-lasts j.line j.operation.id J K a)) k.row_is;
    phase_is = phase-lasts k.state k.under_way j.phase k.phase_is;
  }
