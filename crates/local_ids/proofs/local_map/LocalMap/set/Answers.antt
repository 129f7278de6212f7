use Rattle.std.proofs.Common.{ap, ◌∙◌}
use Rattle.std.specs.FinMap as fin
use Rattle.local_ids.specs.Places.{map_from}
use Rattle.local_ids.proofs.PlaceLaws.{set_is}
use Rattle.local_ids.proofs.local_map.LocalMap.set.Goals as goal

pub returns-clause-ok : goal.returns-clause-ok
returns-clause-ok g c =
    ap (map_from 0) c.put_at.ensures
    ∙ set_is _ c.args.local c.args.value c.in_ok-reach.ensures.there
    ∙ ap (λ m. fin.insert m c.args.local c.args.value) (c.in_ok-reach.ensures.same 0 ∙ c.self.view_is)
