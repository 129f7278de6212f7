use Rattle.std.proofs.Common.{sym, ap, ◌∙◌, None, get_or}
use Rattle.std.specs.FinMap as fin
use Rattle.std.proofs.Math.ListN.{get_or-eq_default}
use Rattle.local_ids.proofs.PlaceLaws.{get_is}
use Rattle.local_ids.proofs.local_map.LocalMap.get.Goals as goal

pub returns-in-Some : goal.returns-in-Some
returns-in-Some g c =
    let ps = c.self.inside.places.items in
    c.as_ref.ensures.value
    ∙ c.in-Some.ensures.lookup.3.1 None
    ∙ ap (λ xs. get_or xs c.args.local None) c.deref.ensures.value
    ∙ sym (get_is ps c.args.local)
    ∙ ap (λ m. fin.get m c.args.local) c.self.view_is

pub returns-in-None : goal.returns-in-None
returns-in-None g c =
    let ps = c.self.inside.places.items in
    sym (get_or-eq_default c.deref.result.now None c.in-None.ensures.lookup.3)
    ∙ ap (λ xs. get_or xs c.args.local None) c.deref.ensures.value
    ∙ sym (get_is ps c.args.local)
    ∙ ap (λ m. fin.get m c.args.local) c.self.view_is
