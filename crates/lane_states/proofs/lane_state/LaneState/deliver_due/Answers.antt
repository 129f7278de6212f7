use Rattle.std.proofs.Common.{◌∙◌, ℕ, ap, refl, subst, arith}
use Rattle.lane_states.specs.declared.lane_state.LaneState.{LaneState}
use Rattle.lane_states.specs.LaneStates.{journal_of}
use Rattle.lane_states.specs.Growing.{DeliversOne}
use Rattle.lane_states.proofs.Dues.{delivers-none, delivers-more}
use Rattle.lane_states.proofs.NodeSpans.{on-same, on-then}
use Rattle.lane_states.proofs.lane_state.LaneState.deliver_due.Goals as goal

pub loop-init : goal.loop-init
loop-init c = record {
  keeps = λ parts k. k;
  took = on-same c.args.self.now c.args.self.now refl (λ n. refl);
  due = delivers-none _ _ _;
  after = refl;
  nodes = refl;
  len = omega arith;
  capacity = omega arith;
  places = c.requires.places;
}

pub deliver_first-requires-clause-keeps : goal.deliver_first-requires-clause-keeps
deliver_first-requires-clause-keeps c = (c.requires.keeps.0, c.loop.invariant.keeps c.requires.keeps.0 c.requires.keeps.1)

pub returns-clause-keeps : goal.returns-clause-keeps
returns-clause-keeps c parts k = c.deliver_first.ensures.keeps parts (c.loop.invariant.keeps parts k)

pub returns-clause-took : goal.returns-clause-took
returns-clause-took c = on-then c.args.self.now c.loop.self c.deliver_first.new.self c.loop.invariant.took c.deliver_first.ensures.took

pub loop-preserved : goal.loop-preserved
loop-preserved c =
    let x = c.loop.self in
    let y = c.deliver_first.new.self in
    record {
      keeps = λ parts k. c.deliver_first.ensures.keeps parts (c.loop.invariant.keeps parts k);
      took = on-then c.args.self.now x y c.loop.invariant.took c.deliver_first.ensures.took;
      due = delivers-more _ _ _ _ _ _ _ c.loop.invariant.due
          (subst (λ (n : ℕ). DeliversOne n x.late.late y.late.late (journal_of x) (journal_of y)) (ap (λ (z : LaneState). z.last) c.loop.invariant.after) (c.deliver_first.ensures.some c.loop-test.true));
      after = c.deliver_first.ensures.after ∙ ap (λ (z : LaneState). record z { journal = y.journal; nodes = y.nodes; late = y.late }) c.loop.invariant.after;
      nodes = c.deliver_first.ensures.nodes ∙ c.loop.invariant.nodes;
      len = (let a = c.loop.invariant.len in let b = c.deliver_first.ensures.len in omega (arith, a, b));
      capacity = (let a = c.loop.invariant.capacity in let b = c.deliver_first.ensures.capacity in omega (arith, a, b));
      places = c.deliver_first.ensures.places;
    }
