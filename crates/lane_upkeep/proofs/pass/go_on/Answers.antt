use Rattle.pass_machine.specs.declared.doing.UpkeepStep.TheVariants.{Tell, Decide, Accept, Round, Finished}
use Rattle.std.proofs.Common.{refl, subst}
use Rattle.pass_machine.specs.declared.doing.UpkeepStep.{UpkeepStep}
use Rattle.lane_states.proofs.Giving.{gives_same}
use Rattle.lane_upkeep.specs.UnderWay.{IsNextStep}
use Rattle.lane_upkeep.proofs.Going.{on_none}
use Rattle.lane_upkeep.proofs.NextSteps.{comes_next}
use Rattle.lane_upkeep.proofs.Standings.{does_step, does_end}
use Rattle.lane_upkeep.proofs.pass.go_on.Goals as goal

pub say-requires-clause-next : goal.say-requires-clause-next
say-requires-clause-next g c =
    let q = c.next_of.new.pass in
    subst (λ (x : UpkeepStep). IsNextStep c.args.lane.now c.args.owner.now q x) c.in-Tell.is (comes_next c.args.lane.now c.args.owner.now c.args.pass.now q c.next_of.result c.next_of.ensures.comes)

pub decide-requires-clause-next : goal.decide-requires-clause-next
decide-requires-clause-next g c =
    let q = c.next_of.new.pass in
    subst (λ (x : UpkeepStep). IsNextStep c.args.lane.now c.args.owner.now q x) c.in-Decide.is (comes_next c.args.lane.now c.args.owner.now c.args.pass.now q c.next_of.result c.next_of.ensures.comes)

pub note_acceptance-requires-clause-next : goal.note_acceptance-requires-clause-next
note_acceptance-requires-clause-next g c =
    let q = c.next_of.new.pass in
    subst (λ (x : UpkeepStep). IsNextStep c.args.lane.now c.args.owner.now q x) c.in-Accept.is (comes_next c.args.lane.now c.args.owner.now c.args.pass.now q c.next_of.result c.next_of.ensures.comes)

pub round-requires-clause-next : goal.round-requires-clause-next
round-requires-clause-next g c =
    let q = c.next_of.new.pass in
    subst (λ (x : UpkeepStep). IsNextStep c.args.lane.now c.args.owner.now q x) c.in-Round.is (comes_next c.args.lane.now c.args.owner.now c.args.pass.now q c.next_of.result c.next_of.ensures.comes)

pub returns-in-Finished-clause-on : goal.returns-in-Finished-clause-on
returns-in-Finished-clause-on g c = on_none c.args.lane.now c.args.owner.now

pub returns-in-Finished-clause-quiet : goal.returns-in-Finished-clause-quiet
returns-in-Finished-clause-quiet g c = does_end c.passes_stand.ensures.over c.args.lane.now c.args.owner.now (g.C.Carrier.given c.args.carrier.now) c.args.pass.now c.next_of.new.pass _ c.requires.passing c.rows_are_whole.ensures.whole
    c.in-Finished.ensures.comes

pub returns-in_ok-say-in-Tell-clause-quiet : goal.returns-in_ok-say-in-Tell-clause-quiet
returns-in_ok-say-in-Tell-clause-quiet g c = does_step c.passes_stand.ensures.over c.args.lane.now c.say.new.lane c.args.owner.now (g.C.Carrier.given c.args.carrier.now) (g.C.Carrier.given c.say.new.carrier) c.args.pass.now c.next_of.new.pass
    c.say.new.pass _ c.requires.passing c.rows_are_whole.ensures.whole c.in-Tell.ensures.comes c.in_ok-say-in-Tell.ensures.quiet

pub returns-in_ok-decide-in-Decide-clause-quiet : goal.returns-in_ok-decide-in-Decide-clause-quiet
returns-in_ok-decide-in-Decide-clause-quiet g c = does_step c.passes_stand.ensures.over c.args.lane.now c.decide.new.lane c.args.owner.now (g.C.Carrier.given c.args.carrier.now) (g.C.Carrier.given c.args.carrier.now) c.args.pass.now
    c.next_of.new.pass c.decide.new.pass _ c.requires.passing c.rows_are_whole.ensures.whole c.in-Decide.ensures.comes (c.in_ok-decide-in-Decide.ensures.quiet (g.C.Carrier.given c.args.carrier.now) c.requires.passing)

pub returns-in-Accept-clause-quiet : goal.returns-in-Accept-clause-quiet
returns-in-Accept-clause-quiet g c = does_step c.passes_stand.ensures.over c.args.lane.now c.note_acceptance.new.lane c.args.owner.now (g.C.Carrier.given c.args.carrier.now) (g.C.Carrier.given c.args.carrier.now) c.args.pass.now
    c.next_of.new.pass c.note_acceptance.new.pass _ c.requires.passing c.rows_are_whole.ensures.whole c.in-Accept.ensures.comes (c.note_acceptance.ensures.quiet (g.C.Carrier.given c.args.carrier.now) c.requires.passing)

pub returns-in_ok-round-in-Round-clause-quiet : goal.returns-in_ok-round-in-Round-clause-quiet
returns-in_ok-round-in-Round-clause-quiet g c = does_step c.passes_stand.ensures.over c.args.lane.now c.round.new.lane c.args.owner.now (g.C.Carrier.given c.args.carrier.now) (g.C.Carrier.given c.round.new.carrier) c.args.pass.now
    c.next_of.new.pass c.round.new.pass _ c.requires.passing c.rows_are_whole.ensures.whole c.in-Round.ensures.comes c.in_ok-round-in-Round.ensures.quiet

pub returns-in-Finished-clause-gives : goal.returns-in-Finished-clause-gives
returns-in-Finished-clause-gives g c = gives_same _ _ refl

pub returns-in-Accept-clause-gives : goal.returns-in-Accept-clause-gives
returns-in-Accept-clause-gives g c = gives_same _ _ refl

pub returns-in_ok-decide-in-Decide-clause-gives : goal.returns-in_ok-decide-in-Decide-clause-gives
returns-in_ok-decide-in-Decide-clause-gives g c = gives_same _ _ refl

pub returns-in_err-decide-in-Decide-clause-gives : goal.returns-in_err-decide-in-Decide-clause-gives
returns-in_err-decide-in-Decide-clause-gives g c = gives_same _ _ refl

pub returns-in-Finished-clause-takes : goal.returns-in-Finished-clause-takes
returns-in-Finished-clause-takes g c = record { whole = c.rows_are_whole.ensures.whole; on = on_none c.args.lane.now c.args.owner.now; step = Finished; next = c.next_of.new.pass; comes = c.in-Finished.ensures.comes; may = tt; does = (refl, refl, refl, refl) }

pub returns-in_ok-say-in-Tell-clause-takes : goal.returns-in_ok-say-in-Tell-clause-takes
returns-in_ok-say-in-Tell-clause-takes g c = record { whole = c.rows_are_whole.ensures.whole; on = c.say.ensures.on; step = Tell c.in-Tell.node c.in-Tell.body; next = c.next_of.new.pass; comes = c.in-Tell.ensures.comes; may = c.in-Tell.ensures.may; does = c.in_ok-say-in-Tell.ensures.does }

pub returns-in_ok-decide-in-Decide-clause-takes : goal.returns-in_ok-decide-in-Decide-clause-takes
returns-in_ok-decide-in-Decide-clause-takes g c = record {
  whole = c.rows_are_whole.ensures.whole;
  on = c.decide.ensures.on;
  step = Decide c.in-Decide.at c.in-Decide.decision;
  next = c.next_of.new.pass;
  comes = c.in-Decide.ensures.comes;
  may = c.in-Decide.ensures.may;
  does = (refl, c.in_ok-decide-in-Decide.ensures.does);
}

pub returns-in-Accept-clause-takes : goal.returns-in-Accept-clause-takes
returns-in-Accept-clause-takes g c = record { whole = c.rows_are_whole.ensures.whole; on = c.note_acceptance.ensures.on; step = Accept c.in-Accept.at; next = c.next_of.new.pass; comes = c.in-Accept.ensures.comes; may = c.in-Accept.ensures.may; does = (refl, c.note_acceptance.ensures.does) }

pub returns-in_ok-round-in-Round-clause-takes : goal.returns-in_ok-round-in-Round-clause-takes
returns-in_ok-round-in-Round-clause-takes g c = record { whole = c.rows_are_whole.ensures.whole; on = c.round.ensures.on; step = Round c.in-Round.at; next = c.next_of.new.pass; comes = c.in-Round.ensures.comes; may = c.in-Round.ensures.may; does = c.in_ok-round-in-Round.ensures.does }
