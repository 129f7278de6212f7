use Rattle.std.proofs.Common.{ap, ◌∙◌}
use Rattle.local_ids.specs.Places.{map_from}
use Rattle.local_ids.proofs.PlaceLaws.{more_is}
use Rattle.local_ids.proofs.local_map.reach.Goals as goal

pub loop-places-preserved : goal.loop-places-preserved
loop-places-preserved g c = λ n. ap (map_from n) c.in_ok-push.ensures.items ∙ more_is n c.loop-places.places.items ∙ c.loop-places.invariant n
