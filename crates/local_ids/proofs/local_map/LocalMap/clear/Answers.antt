use Rattle.std.proofs.Common.{sym, ap, ◌∙◌, arith}
use Rattle.std.specs.FinMap as fin
use Rattle.local_ids.specs.Places.{map_from}
use Rattle.local_ids.proofs.PlaceLaws.{clear_is, clear_out}
use Rattle.local_ids.proofs.local_map.LocalMap.clear.Goals as goal

pub returns-then-at-len : goal.returns-then-at-len
returns-then-at-len g c =
    ap (map_from 0) c.put_at.ensures
    ∙ clear_is _ c.args.local (omega (arith, c.self.inside.places.ok.0))
    ∙ ap (λ m. fin.remove m c.args.local) c.self.view_is

pub returns-else-at-len : goal.returns-else-at-len
returns-else-at-len g c =
    sym c.self.view_is
    ∙ clear_out c.self.inside.places.items c.args.local (omega (arith, c.self.inside.places.ok.0))
    ∙ ap (λ m. fin.remove m c.args.local) c.self.view_is
