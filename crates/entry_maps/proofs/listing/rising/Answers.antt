use Rattle.std.proofs.Common.{◌∙◌, arith}
use Rattle.std.proofs.lemmas.Bool.Decides.{nat_tests}
use Rattle.std.proofs.lemmas.List.Filters.{dedup_is}
use Rattle.entry_maps.proofs.StampLaws.{rising-deduped}
use Rattle.entry_maps.proofs.listing.rising.Goals as goal

pub returns : goal.returns
returns c = dedup_is _ _ _ c.dedup.ensures.filtered ∙ rising-deduped (λ x y. grind (arith, nat_tests)) _ _ c.sort_unstable.ensures.permutation c.sort_unstable.ensures.sorted
