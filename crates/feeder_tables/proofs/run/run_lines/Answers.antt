use Rattle.std.proofs.Common.{ℕ, length, sym, ap, ◌∙◌, subst}
use Rattle.lane_locks.specs.declared.lanes.ReadyLane.{ReadyLane}
use Rattle.lane_locks.specs.Lanes.{EachAt}
use Rattle.lane_locks.specs.Runs.{MayRun}
use Rattle.feeder_tables.proofs.run.run_lines.Goals as goal

pub run_segment-requires-clause-ready : goal.run_segment-requires-clause-ready
run_segment-requires-clause-ready g c κs within = subst (λ (n : ℕ). EachAt (λ _ (r : ReadyLane _ _ _ _). MayRun n (r.lane).lane r.list) c.in_ok-lanes.lanes.items) (sym (ap length c.deref_mut.ensures.value ∙ c.in_ok-made.ensures)) c.in_ok-lanes.ensures.may
