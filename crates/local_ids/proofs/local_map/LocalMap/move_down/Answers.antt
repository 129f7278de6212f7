use Rattle.std.proofs.Common.{sym, ap, subst, ◌∙◌, arith, None, ◌≡◌}
use Rattle.std.specs.FinMap as fin
use Rattle.local_ids.specs.Places.{map_from, moved}
use Rattle.local_ids.proofs.MoveLaws.{moved_down, moved_out}
use Rattle.local_ids.proofs.local_map.LocalMap.move_down.Goals as goal

pub returns-then-from-len : goal.returns-then-from-len
returns-then-from-len g c =
    ap (map_from 0) c.exchange.ensures
    ∙ moved_down c.self.inside.places.items c.args.from c.args.to c.requires.below (omega (arith, c.self.inside.places.ok.0)) (subst (λ m. fin.get m c.args.to ≡ None) (sym c.self.view_is) c.requires.free)
    ∙ ap (λ m. moved c.args.from c.args.to m) c.self.view_is

pub returns-else-from-len : goal.returns-else-from-len
returns-else-from-len g c =
    sym c.self.view_is
    ∙ moved_out c.self.inside.places.items c.args.from c.args.to c.requires.below (omega (arith, c.self.inside.places.ok.0)) (subst (λ m. fin.get m c.args.to ≡ None) (sym c.self.view_is) c.requires.free)
    ∙ ap (λ m. moved c.args.from c.args.to m) c.self.view_is
