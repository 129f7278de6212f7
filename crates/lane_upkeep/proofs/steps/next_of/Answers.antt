use Rattle.std.proofs.Common.{sym, subst, rules}
use Rattle.distributor_part.specs.Parts.{Part}
use Rattle.lane_states.specs.LaneStates.{journal_of}
use Rattle.pass_machine.specs.declared.pass.UpkeepPass.{UpkeepPass}
use Rattle.pass_machine.specs.Turns.{Sees}
use Rattle.lane_upkeep.specs.Noted.{AreNotes}
use Rattle.lane_upkeep.specs.UnderWay.{view_in, KnowsDoing}
use Rattle.lane_upkeep.proofs.NextSteps.{ideal_of, ideal_is}
use Rattle.lane_upkeep.proofs.Permitted.{part_read, sees_view, may_come}
use Rattle.lane_upkeep.proofs.UnderWay.{goes_known}
use Rattle.lane_upkeep.proofs.steps.next_of.Goals as goal

sees : (c : goal.After-look_into) → Sees c.index-part.result.now (view_in (ideal_of c.args.owner.now) c.args.lane.now c.args.owner.now)
sees c =
    let x = c.args.lane.now in
    let o = c.args.owner.now in
    subst (λ (p : Part). Sees p (view_in (ideal_of o) x o))
    (sym (part_read x o c.from.result c.index-part.result.now c.from.ensures (search rules) c.index-part.ensures))
    (sees_view x o (ideal_of o) c.requires.passing (ideal_is o))

known : (c : goal.After-look_into) → KnowsDoing c.args.lane.now c.args.owner.now c.next_step-step.new.self.doing
known c =
    let x = c.args.lane.now in
    let o = c.args.owner.now in
    let p = c.args.pass.now in
    goes_known (ideal_of o) x o p.made p.notes.by_number p.doing c.next_step-step.new.self.doing (c.next_step-step.ensures.goes (view_in (ideal_of o) x o) (sees c)) c.requires.under_way.doing

pub returns-clause-may : goal.returns-clause-may
returns-clause-may c =
    let x = c.args.lane.now in
    let o = c.args.owner.now in
    let p = c.args.pass.now in
    may_come x o (ideal_of o) c.requires.passing (ideal_is o) c.rows_are_whole.ensures.whole c.rows_are_whole.ensures.of_lane c.nodes_are_few.ensures p.made p.notes.by_number c.requires.under_way.notes
    c.next_step-step.new.self.doing (known c) c.next_step-step.result (c.next_step-step.ensures.says (view_in (ideal_of o) x o) (sees c)) c.look_into.ensures

pub returns-clause-under_way : goal.returns-clause-under_way
returns-clause-under_way c = record { notes = subst (λ (q : UpkeepPass). AreNotes (journal_of c.args.lane.now) c.args.owner.now.state q.notes.by_number) (sym c.next_step-step.ensures.same) c.requires.under_way.notes; doing = known c }
