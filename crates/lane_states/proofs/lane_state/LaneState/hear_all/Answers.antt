use Rattle.std.proofs.Common.{◌∙◌, refl, sym, ap, arith, rules}
use Rattle.lane_states.specs.declared.lane_state.LaneState.{LaneState}
use Rattle.lane_states.specs.LaneStates.{journal_of}
use Rattle.lane_states.proofs.Hearings.{heard-none, heard-more, held-above, idle-heard}
use Rattle.lane_states.proofs.lane_state.LaneState.hear_all.Goals as goal

pub loop-distributor-init : goal.loop-distributor-init
loop-distributor-init c = record {
  keeps = c.requires.keeps;
  grows = sym (heard-none c.args.deaf c.args.state.now (journal_of c.args.self.now));
  after = refl;
  parts = refl;
  len = omega arith;
  capacity = omega arith;
  resting = λ r. r;
}

pub hear_unless_deaf-requires : goal.hear_unless_deaf-requires
hear_unless_deaf-requires c =
    let x = c.args.self.now in
    let d = c.loop-distributor.distributor in
    let i = c.loop-distributor.invariant in
    record {
      keeps = i.keeps;
      newest = ap (λ (z : LaneState). z.newest) i.after ∙ c.requires.newest;
      idle = rw i.grows (idle-heard d c.args.deaf c.args.state.now (journal_of x) d (c.requires.idle d));
      older = rw (i.grows, held-above d c.args.deaf c.args.state.now (journal_of x) d (omega arith)) (c.requires.older d);
      there = search rules;
      room = search rules;
    }

pub loop-distributor-preserved : goal.loop-distributor-preserved
loop-distributor-preserved c =
    let x = c.args.self.now in
    let d = c.loop-distributor.distributor in
    let i = c.loop-distributor.invariant in
    let e = c.hear_unless_deaf.ensures in
    record {
      keeps = e.keeps;
      grows = e.grows ∙ rw i.grows (sym (heard-more d c.args.deaf c.args.state.now (journal_of x)));
      after = search rules;
      parts = e.parts ∙ i.parts;
      len = search rules;
      capacity = search rules;
      resting = λ r. e.resting (i.resting r);
    }
