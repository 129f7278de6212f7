use Rattle.std.proofs.Common.{rules, ◌≡◌, ◌∙◌, ◌<◌, ap, sym, length, is_some}
use Rattle.distributor_part.specs.Parts.{Part}
use Rattle.lane_keeping.specs.LaneKeeping.{part_in}
use Rattle.lane_states.proofs.Places.{part-at}
use Rattle.lane_core.proofs.work.Work.has_opened.Goals as goal

pub returns : goal.returns
returns c =
    let x = c.args.self.now.state in
    let d = c.args.distributor in
    let p : Part = c.index.result.now in
    let within : d < length x.parts.items = search rules in
    let is : part_in x.lane x.rules x.parts.items d ≡ p = part-at x.lane x.rules x.parts.items d p within (rw c.from.ensures at c.index.ensures) in
    c.is_opened.ensures ∙ ap (λ (q : Part). is_some q.rows) (sym is)
