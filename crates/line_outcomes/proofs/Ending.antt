-- What a line wants to end with is its outcome.
use Rattle.std.proofs.Common.{◌≡◌, ℕ, true, List, Option, Some, None, IsSome, inl, inr, refl, sym, ap, ◌∙◌, subst}
use mathlib.Core.Bool.{true≢false}
use Rattle.bucket_ids.specs.Buckets.{Low}
use Rattle.cluster_states.specs.declared.cluster_state.ClusterState.{ClusterState}
use Rattle.stamps.specs.declared.stamp.Stamp.{Stamp}
use Rattle.documents.specs.declared.entry.Entry.{Entry}
use Rattle.messages.specs.declared.operation.Operation.{Operation}
use Rattle.messages.specs.declared.outcome.Outcome.{Outcome}
use Rattle.messages.specs.declared.outcome.Outcome.TheVariants.{TooFew}
use Rattle.distributor_part.specs.declared.rules.Rules.{Rules}
use Rattle.op_machine.specs.declared.machine.Standing.{Standing}
use Rattle.op_machine.specs.Outcomes.{Next, Asks, Finishes}
use Rattle.op_machine.specs.Standings.{next_at}
use Rattle.lane_journals.specs.Buckets.{key_of}
use Rattle.lane_journals.specs.Readers.{Journal, Preparing, Given, began, prepared, opened, row_at, round_of, answer}
use Rattle.lane_journals.specs.Endings.{RoundFellShort, UnpreparedFellShort}
use Rattle.lane_journals.specs.Meanings.{history}
use Rattle.lane_journals.specs.Places.{state_in}
use Rattle.lane_journals.specs.KeptJournals.{IsLegal}
use Rattle.lane_journals.specs.declared.event.LaneEvent.{LaneEvent}
use Rattle.lane_keeping.specs.LaneKeeping.{setting_of}
use Rattle.lane_keeping.specs.Acting.{IsActing}
use Rattle.operation_keeping.specs.OperationKeeping.{beginning_of, KnowsOperation}
use Rattle.operation_keeping.specs.Wants.{Ends, NextGives, OperationWants, UnpreparedWants, IsEndSince}
use Rattle.lane_journals.proofs.Meant.{state-serves}
use Rattle.line_outcomes.specs.Outcomes.{HasShown, HaveAllShown, LacksUnion, EndsWith, FallsShortNow, IsOutcome}
use Rattle.line_outcomes.proofs.Shortages.{some-same}
use Rattle.line_outcomes.proofs.Unprepared.{unprepared-end}
use Rattle.line_outcomes.proofs.Prepared.{prepared-end}

module _ (lane : Low) (rules : Rules) (line : ℕ) (o : Operation) (from : Journal) (J : List LaneEvent) (x : Outcome) (legal : IsLegal (setting_of lane rules) J) where
  abbrev H : Journal
  H = history J

  -- ---- it is prepared

  finishing : (written : Option Entry) (y : Next) → NextGives line written y (Ends x) → y ≡ Finishes x
  finishing written (Asks m) g = absurd g
  finishing written (Finishes z) g = ap Finishes (sym g)

  of-operation : (d : ℕ) (s : ClusterState) → state_in s.version J ≡ Some s → OperationWants lane rules J line o d s (Ends x) → IsOutcome rules.acks line o from J x
  of-operation d s published w = subst (λ (z : Operation). IsOutcome rules.acks line z from J x) (w.stands).operation_is (record {
    distributor = d;
    state = s;
    stamp = t.plan.stamp;
    published = published;
    begun = (know.plan).is_under_way.begun_as;
    ends = subst (λ (z : Option Preparing). EndsWith rules.acks J line t.plan.operation from s (beginning_of d s t.plan.operation t.plan.stamp) z x) (sym (know.plan).prepared_as)
        (prepared-end lane rules J d s line w.row w.written t legal know from x (finishing w.written (next_at t) w.gives));
  })
    where
      t : Standing
      t = w.standing

      know : KnowsOperation lane rules J d s line w.row w.written w.standing
      know = (w.stands).knows

  -- ---- it isn't

  some-given : (g : Option Given) → IsSome g → (y : Given) × (g ≡ Some y)
  some-given None h = absurd (true≢false (sym h))
  some-given (Some y) h = (y, refl)

  -- where too few are told of after a union, some receiver didn't answer it
  module _ (d : ℕ) (s : ClusterState) (stamp : Option Stamp) (published : state_in s.version J ≡ Some s) (begun : began line H ≡ Some (beginning_of d s o stamp)) (unprepared : prepared line H ≡ None)
      (row : Low) (at : row_at s.version (key_of o.id) H ≡ Some row) (opened_is : opened s.version H ≡ true) (all : HaveAllShown J s row) where
    now-short : (outcome : Outcome) → FallsShortNow (setting_of lane rules) J line outcome → (answered needed absent : ℕ) → outcome ≡ TooFew answered needed absent → UnpreparedFellShort (setting_of lane rules) J line (beginning_of d s o stamp) answered needed absent
    now-short outcome short answered needed absent is = (subst (FallsShortNow (setting_of lane rules) J line) is short) (beginning_of d s o stamp) begun unprepared

    missing : (answered needed absent : ℕ) → UnpreparedFellShort (setting_of lane rules) J line (beginning_of d s o stamp) answered needed absent → (n : ℕ) × LacksUnion J s.version row n
    missing answered needed absent u = elim u.short [
      | inl un ↦ absurd (true≢false (sym opened_is ∙ un.0))
      | inr r ↦ elim r.2 [
        | inl read ↦ absurd (unread r.0 (some-same r.0 row (sym r.1 ∙ at)) read)
        | inr union ↦ (absent, subst (λ (c : Low). LacksUnion J s.version c absent) (some-same r.0 row (sym r.1 ∙ at)) (union.3, union.4))
      ]
    ]
      where
        unread : (c : Low) → c ≡ row → RoundFellShort H s.version c answered needed absent → ⊥
        unread c same f = f.1.2 (some-given (answer s.version (round_of s.version c H) absent H) (subst (λ (z : Low). HasShown J s.version z absent) (sym same) (all absent (sym (state-serves (setting_of lane rules) J legal s.version absent s published) ∙ f.1.1))))

  of-search : (d : ℕ) (s : ClusterState) (stamp : Option Stamp) → IsActing lane J d s → began line H ≡ Some (beginning_of d s o stamp) → prepared line H ≡ None → FallsShortNow (setting_of lane rules) J line x
      → UnpreparedWants lane rules J line from (key_of o.id) d s (Ends x) → IsOutcome rules.acks line o from J x
  of-search d s stamp acting begun unprepared short w = record {
    distributor = d;
    state = s;
    stamp = stamp;
    published = acting.published;
    begun = begun;
    ends = subst (λ (z : Option Preparing). EndsWith rules.acks J line o from s (beginning_of d s o stamp) z x) (sym unprepared)
        (unprepared-end lane rules J from d s acting line (key_of o.id) x
        (λ row at opened_is all answered needed absent is. missing d s stamp acting.published begun unprepared row at opened_is all answered needed absent
        (now-short d s stamp acting.published begun unprepared row at opened_is all x short answered needed absent is)) w);
  }

  pub ends-so : FallsShortNow (setting_of lane rules) J line x → IsEndSince lane rules line o from J x → IsOutcome rules.acks line o from J x
  ends-so short w = elim w.wants [
    | inl u ↦ of-search w.distributor w.state w.stamp w.acting (w.under_way).begun_as u.0 short u.1
    | inr y ↦ of-operation w.distributor w.state (w.acting).published y
  ]
