use Rattle.std.proofs.Common.{rules, ◌≡◌, ◌∙◌, ◌<◌, ap, length, subst}
use Rattle.distributor_part.specs.Parts.{Part}
use Rattle.lane_keeping.specs.LaneKeeping.{PartKeeps, part_in}
use Rattle.lane_states.specs.LaneStates.{journal_of}
use Rattle.lane_keeping.specs.Tidings.{is_older, version_held}
use Rattle.lane_states.proofs.Places.{holds-older, part-at}
use Rattle.lane_states.proofs.lane_state.LaneState.holds_older.Goals as goal

pub returns : goal.returns
returns c =
    let x = c.args.self.now in
    let d = c.args.distributor in
    let p : Part = c.index.result.now in
    let within : d < length x.parts.items = search rules in
    let is : part_in x.lane x.rules x.parts.items d ≡ p = part-at x.lane x.rules x.parts.items d p within (rw c.from.ensures at c.index.ensures) in
    c.is_behind.ensures ∙ ap (λ o. is_older (version_held o) c.args.version) c.state.ensures
    ∙ holds-older x.lane x.rules (journal_of x) d c.args.version p (subst (λ (q : Part). PartKeeps x.lane x.rules (journal_of x) d q) is (c.requires.keeps.keeps.parts_are d))
