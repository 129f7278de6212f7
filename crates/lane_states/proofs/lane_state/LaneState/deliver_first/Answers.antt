use Rattle.std.proofs.Common.{List, length, ap, sym, subst}
use Rattle.messages.specs.declared.late.Late.{Late}
use Rattle.lane_states.specs.LaneStates.{journal_of, IsKeptBy, HasPlaces, tells_of}
use Rattle.lane_states.specs.declared.lane_state.LaneState.{LaneState}
use Rattle.lane_states.proofs.Turns.{places-first}
use Rattle.lane_states.proofs.Kept.{kept_first, first_coming}
use Rattle.lane_states.proofs.lane_state.LaneState.deliver_first.Goals as goal

pub give_out-requires-clause-coming : goal.give_out-requires-clause-coming
give_out-requires-clause-coming c = first_coming c.requires.keeps.1 c.in-Some.ensures.taken.1

pub give_out-requires-clause-keeps : goal.give_out-requires-clause-keeps
give_out-requires-clause-keeps c = (c.requires.keeps.0, kept_first c.requires.keeps.1 c.in-Some.ensures.taken.1)

pub returns-clause-keeps : goal.returns-clause-keeps
returns-clause-keeps c parts k = c.give_out.ensures.keeps parts (kept_first k c.in-Some.ensures.taken.1)

pub returns-in_default-clause-keeps : goal.returns-in_default-clause-keeps
returns-in_default-clause-keeps c parts k =
    let x = c.args.self.now in
    subst (λ (late : List Late). IsKeptBy x.lane x.rules (journal_of x) x.newest x.last x.nodes.items parts late x.stopped (tells_of x)) (sym c.in_default.ensures.taken.1) k

pub returns-clause-places : goal.returns-clause-places
returns-clause-places c =
    let x = c.args.self.now in
    let e = c.give_out.new.self in
    let rest = c.take_due.new.self.late in
    let late = ap (λ (z : LaneState). z.late.late) c.give_out.ensures.after in
    subst (λ (ls : List Late). HasPlaces (length ls) e) (sym late) (c.give_out.ensures.places (length rest) (places-first x _ x.late.late rest c.in-Some.ensures.taken.1 c.requires.places))
