use Rattle.std.proofs.Common.{rules, ◌≡◌, ◌<◌, None, length, slice_set}
use Rattle.distributor_part.specs.Parts.{Part}
use Rattle.distributor_part.specs.Steps.{without_end}
use Rattle.lane_keeping.specs.LaneKeeping.{part_in}
use Rattle.lane_states.specs.LaneStates.{journal_of}
use Rattle.lane_states.proofs.Kept.{kept_still}
use Rattle.lane_states.proofs.Places.{part-at}
use Rattle.lane_keeping.proofs.Parts.{part-others}
use Rattle.lane_rounds.proofs.Opened.{changed-at, given-up-at}
use Rattle.lane_rounds.proofs.Accepting.{accepted-changed}
use Rattle.lane_rounds.proofs.opening.give_up.Goals as goal

pub returns-clause-keeps : goal.returns-clause-keeps
returns-clause-keeps c =
    let x = c.args.lane.now in
    let d = c.args.distributor in
    let p : Part = c.index_mut.result.now in
    let q : Part = c.give_up.new.self in
    let here : d < length x.parts.items = search rules in
    let is : part_in x.lane x.rules x.parts.items d ≡ p = part-at x.lane x.rules x.parts.items d p here (rw c.from.ensures at c.index_mut.ensures.value) in
    rw c.from.ensures
    (kept_still c.requires.keeps (search rules) (c.parts_are_told.ensures.alike _ _ _ _ _ _ _ c.requires.keeps.keeps d (slice_set x.parts.items d q) 0 None (without_end p.stage)
    (changed-at x.lane x.rules x.parts.items d p q here is 0 None (without_end p.stage) c.give_up.ensures) (part-others x.lane x.rules x.parts.items d q))
    (accepted-changed x.lane x.rules (journal_of x) x.parts.items d p q here is 0 None (without_end p.stage) c.give_up.ensures c.requires.keeps.accepted))

pub returns-clause-gives_up : goal.returns-clause-gives_up
returns-clause-gives_up c =
    let x = c.args.lane.now in
    let d = c.args.distributor in
    let p : Part = c.index_mut.result.now in
    let q : Part = c.give_up.new.self in
    let here : d < length x.parts.items = search rules in
    let is : part_in x.lane x.rules x.parts.items d ≡ p = part-at x.lane x.rules x.parts.items d p here (rw c.from.ensures at c.index_mut.ensures.value) in
    rw c.from.ensures (record { after = given-up-at x.lane x.rules x.parts.items d p q here is c.give_up.ensures })
