-- The round that is run for the row of a line, in a lane: how the line goes on by it.
use Rattle.std.proofs.Common.{◌≡◌, ◌+◌, ℕ, List, Option, inl, refl, sym, ap, subst, ◌∙◌}
use Rattle.bucket_ids.specs.Buckets.{Low}
use Rattle.stamps.specs.declared.stamp.Stamp.{Stamp}
use Rattle.cluster_states.specs.declared.cluster_state.ClusterState.{ClusterState}
use Rattle.carriers.specs.declared.fate.Fate.{Fate}
use Rattle.messages.specs.declared.operation.Operation.{Operation}
use Rattle.distributor_part.specs.declared.rules.Rules.{Rules}
use Rattle.distributor_part.specs.Parts.{Part}
use Rattle.messages.specs.declared.late.Late.{Late}
use Rattle.lane_journals.specs.Buckets.{key_of}
use Rattle.lane_journals.specs.Readers.{Journal, rounds}
use Rattle.lane_journals.specs.Meanings.{history}
use Rattle.lane_journals.specs.declared.event.LaneEvent.{LaneEvent}
use Rattle.lane_keeping.specs.LaneKeeping.{part_in}
use Rattle.lane_keeping.specs.Asking.{OthersStay}
use Rattle.operation_keeping.specs.Wants.{IsRunSince, Still, IsCutRunSince}
use Rattle.lane_states.specs.declared.lane_state.LaneState.{LaneState}
use Rattle.round_keeping.specs.declared.round_run.RoundRun.{RoundRun}
use Rattle.round_keeping.specs.declared.round_run.RoundEnd.{RoundEnd}
use Rattle.lane_states.specs.LaneStates.{journal_of, IsResting}
use Rattle.round_keeping.specs.RoundRuns.{NoneRuns, EndsEnough, Begins, IsWholeRun, IsCutShort}
use Rattle.lane_lines.specs.RoundLines.{IsBegunFor, IsWaitedFor, OfWaited}
use Rattle.lane_lines.specs.Steps.{IsUneventful}
use Rattle.lane_lines.specs.Readying.{IsToPrepare, BeganNoRound, GoesOnWith, IsCutOffWith}
use Rattle.lane_lines.proofs.RoundLines.{Follows, follows-begun, follows-whole, follows-cut, follows-quiet, begun-for, waited-for}
use Rattle.lane_lines.proofs.RunningSteps.{run-more}

-- nothing was done for the line
pub nothing-done : (from : Journal) (x n : LaneState) (line : ℕ) (o : Operation) (d : ℕ) (s : ClusterState) (stamp : Option Stamp) → journal_of n ≡ journal_of x → IsToPrepare x.lane (journal_of x) line o d s stamp → GoesOnWith from x n line o d s stamp
nothing-done from x n line o d s stamp is w = record {
  run = subst (λ (J : List LaneEvent). IsRunSince x.lane x.rules line o from (journal_of x) J) (sym is) Still;
  still = subst (λ (J : List LaneEvent). IsToPrepare x.lane J line o d s stamp) (sym is) w;
}

-- a line that goes on is cut off at no round
pub cut-nothing : (from : Journal) (x n : LaneState) (line : ℕ) (o : Operation) (d : ℕ) (s : ClusterState) (stamp : Option Stamp) → GoesOnWith from x n line o d s stamp → IsCutOffWith from x n line o d s stamp
cut-nothing from x n line o d s stamp g = record { run = (journal_of n, g.run, inl refl); still = g.still }

-- a round was begun in the row of the key, and run until now
pub record HasBegun (x m n : LaneState) (d key : ℕ) (run : RoundRun) : Type 0 where
  pub begins : Begins x.lane (journal_of x) (journal_of m) d key run
  pub starts : (line : ℕ) (o : Operation) (stamp : Option Stamp) (from : Journal) → IsBegunFor from x.lane (journal_of x) run line o stamp → IsRunSince x.lane x.rules line o from (journal_of x) (journal_of m)
  pub lane_then : m.lane ≡ x.lane
  pub rules_then : m.rules ≡ x.rules

module _ (x m n : LaneState) (d key : ℕ) (run : RoundRun) (h : HasBegun x m n d key run) (line : ℕ) (o : Operation) (s : ClusterState) (stamp : Option Stamp)
    (w : IsToPrepare x.lane (journal_of x) line o d s stamp) where
  -- the number of the round in its row
  abbrev number : ℕ
  number = rounds s.version (history (journal_of x)) + 1

  follows-then : Follows x.lane (journal_of x) (journal_of m) line o d s stamp (run.round).row number
  follows-then = follows-begun x.lane (journal_of x) (journal_of m) d key run h.begins line o s stamp w

  started : (from : Journal) → key ≡ key_of o.id → BeganNoRound (journal_of x) from s.version → IsRunSince x.lane x.rules line o from (journal_of x) (journal_of m)
  started from same none = h.starts line o stamp from (begun-for x.lane (journal_of x) (journal_of m) d key run h.begins line o s stamp w same from none)

  waited : key ≡ key_of o.id → IsWaitedFor m.lane (journal_of m) run line o stamp
  waited same = subst (λ (l : Low). IsWaitedFor l (journal_of m) run line o stamp) (sym h.lane_then) (waited-for x.lane (journal_of x) (journal_of m) d key run h.begins line o s stamp w same)

  -- the round was run to its end
  module _ (e : RoundEnd) (given after : List Fate) (last now : ℕ) (late rest : List Late) (whole : IsWholeRun m.lane run e given after last now late rest (journal_of m) (journal_of n)) where
    pub follows-now : Follows x.lane (journal_of x) (journal_of n) line o d s stamp (run.round).row number
    follows-now = follows-whole x.lane (journal_of x) line o d s stamp (run.round).row number run e given after last now late rest (journal_of m) (journal_of n)
        (subst (λ (l : Low). IsWholeRun l run e given after last now late rest (journal_of m) (journal_of n)) h.lane_then whole) follows-then

    pub whole-quiet : NoneRuns (journal_of x) → NoneRuns (journal_of n) → IsUneventful (journal_of x) (journal_of n)
    whole-quiet none then = follows-quiet x.lane (journal_of x) line o d s stamp (run.round).row number (journal_of n) follows-now none then

    pub goes-on : (from : Journal) → key ≡ key_of o.id → BeganNoRound (journal_of x) from s.version → OfWaited m.lane (journal_of m) run (λ line o. IsRunSince m.lane m.rules line o from (journal_of m) (journal_of n)) → GoesOnWith from x n line o d s stamp
    goes-on from same none wanted = record {
      run = run-more x.lane x.rules line o from (journal_of x) (journal_of m) (journal_of n) (started from same none)
          (subst (λ (l : Low). IsRunSince l x.rules line o from (journal_of m) (journal_of n)) h.lane_then (subst (λ (r : Rules). IsRunSince m.lane r line o from (journal_of m) (journal_of n)) h.rules_then (wanted line o stamp (waited same))));
      still = follows-now.waits;
    }

  -- or was cut off
  module _ (given after : List Fate) (last now : ℕ) (late rest : List Late) (cut : IsCutShort m.lane run given after last now late rest (journal_of m) (journal_of n)) where
    follows-short : Follows x.lane (journal_of x) (journal_of n) line o d s stamp (run.round).row number
    follows-short = follows-cut x.lane (journal_of x) line o d s stamp (run.round).row number run given after last now late rest (journal_of m) (journal_of n)
        (subst (λ (l : Low). IsCutShort l run given after last now late rest (journal_of m) (journal_of n)) h.lane_then cut) follows-then

    pub cut-quiet : NoneRuns (journal_of x) → NoneRuns (journal_of n) → IsUneventful (journal_of x) (journal_of n)
    cut-quiet none then = follows-quiet x.lane (journal_of x) line o d s stamp (run.round).row number (journal_of n) follows-short none then

    pub cut-off : (from : Journal) → key ≡ key_of o.id → BeganNoRound (journal_of x) from s.version → OfWaited m.lane (journal_of m) run (λ line o. IsCutRunSince m.lane m.rules line o from (journal_of m) (journal_of n)) → IsCutOffWith from x n line o d s stamp
    cut-off from same none wanted =
        let r : IsCutRunSince x.lane x.rules line o from (journal_of m) (journal_of n) =
        subst (λ (l : Low). IsCutRunSince l x.rules line o from (journal_of m) (journal_of n)) h.lane_then (subst (λ (r : Rules). IsCutRunSince m.lane r line o from (journal_of m) (journal_of n)) h.rules_then (wanted line o stamp (waited same))) in
        record {
          run = (r.0, run-more x.lane x.rules line o from (journal_of x) (journal_of m) r.0 (started from same none) r.1, r.2);
          still = follows-short.waits;
        }

-- ---- the parts

-- one part was another and is another
pub others-on : (x m n : LaneState) (d e : ℕ) → m.lane ≡ x.lane → m.rules ≡ x.rules → e ≡ d → OthersStay x.lane x.rules x.parts.items m.parts.items d → OthersStay m.lane m.rules m.parts.items n.parts.items e → OthersStay x.lane x.rules x.parts.items n.parts.items d
others-on x m n d e lane rules is first next i off =
    subst (λ (l : Low). part_in l x.rules n.parts.items i ≡ part_in l x.rules m.parts.items i) lane
    (subst (λ (r : Rules). part_in m.lane r n.parts.items i ≡ part_in m.lane r m.parts.items i) rules (next i (λ same. off (same ∙ is))))
    ∙ first i off

-- a part whose row needs no round rests
pub enough-rests : (p q : Part) (key : ℕ) → IsResting p → EndsEnough p q key → IsResting q
enough-rests p q key r e = record {
  unasked = ap (λ (z : Part). z.asked) e.after;
  told = ap (λ (z : Part). z.awaited) e.after ∙ r.told;
  no_round = ap (λ (z : Part). z.stage) e.after;
}
