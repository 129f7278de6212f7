use Rattle.std.proofs.Common.{inl, inr, refl, rules}
use Rattle.lane_states.proofs.Giving.{gives_then}
use Rattle.lane_upkeep.proofs.Reaching.{passes-reach}
use Rattle.lane_upkeep.proofs.Resting.{rests-if}
use Rattle.lane_upkeep.proofs.maintaining.maintain.Goals as goal

pub returns-clause-rests : goal.returns-clause-rests
returns-clause-rests g c =
    rests-if c.make_pass.result _ _
    (λ does. c.passes_bring_rest.ensures c.args.lane.now c.open_owner.new.lane c.make_pass.new.lane c.args.owner.now (g.C.Carrier.given c.open_owner.new.carrier) (g.C.Carrier.given c.make_pass.new.carrier) (record {
      newest = c.requires.newest;
      opening = c.open_owner.ensures.on;
      between = search rules;
      whole = c.rows_are_whole.ensures.whole;
      pass = c.make_pass.ensures.on;
      passing = c.make_pass.ensures.passing;
      does = does;
    })) c.make_pass.ensures.quiet

pub returns-clause-passes : goal.returns-clause-passes
returns-clause-passes g c =
    rests-if c.make_pass.result _ _
    (λ pass. record {
      middle = c.open_owner.new.lane;
      fates = g.C.Carrier.given c.open_owner.new.carrier;
      opening = c.open_owner.ensures.on;
      behind = inl (search rules, pass);
    }) c.make_pass.ensures.pass

pub returns-then-not-branch-clause-passes : goal.returns-then-not-branch-clause-passes
returns-then-not-branch-clause-passes g c =
    record {
      middle = c.open_owner.new.lane;
      fates = g.C.Carrier.given c.open_owner.new.carrier;
      opening = c.open_owner.ensures.on;
      behind = inr (c.in_ok-open_owner.ensures.lacking c.if-not-branch.true, refl, refl);
    }

pub returns-clause-gives : goal.returns-clause-gives
returns-clause-gives g c = gives_then _ _ _ c.open_owner.ensures.gives c.make_pass.ensures.gives

pub returns-clause-run : goal.returns-clause-run
returns-clause-run g c =
    let e = c.make_pass.new.lane in
    rests-if c.make_pass.result _ _
    (λ pass. passes-reach c.settings_are_found.ensures.ordered c.upkeep_goes_on.ensures.span c.upkeep_leaves_states.ensures.stopped c.args.lane.now c.open_owner.new.lane e c.args.owner.now (g.C.Carrier.given c.open_owner.new.carrier) (g.C.Carrier.given c.make_pass.new.carrier)
    c.nodes_are_few.ensures (c.make_pass.ensures.passing.keeps.keeps).legal c.open_owner.ensures.on c.make_pass.ensures.on pass) c.make_pass.ensures.pass

pub returns-then-not-branch-clause-run : goal.returns-then-not-branch-clause-run
returns-then-not-branch-clause-run g c = λ back. absurd (c.in_ok-open_owner.ensures.lacking c.if-not-branch.true back)
