use Rattle.std.proofs.Common.{◌≤◌, sym, ap, subst, ◌∙◌, length, None, get_or}
use Rattle.local_ids.specs.Places.{map_from}
use Rattle.local_ids.proofs.PlaceLaws.{cut_is}
use Rattle.local_ids.proofs.local_map.LocalMap.compact.Goals as goal

pub returns : goal.returns
returns g c =
    let ps = c.self.inside.places.items in
    ap (map_from 0) (c.shrink_to_fit.ensures.items ∙ c.truncate.ensures.items)
    ∙ cut_is ps c.taken-count.result (subst (λ l. c.taken-count.result ≤ length l) c.deref.ensures.value c.taken-count.ensures.within)
    (λ q l. ap (λ xs. get_or xs q None) (sym c.deref.ensures.value) ∙ c.taken-count.ensures.free q l)
    ∙ c.self.view_is
