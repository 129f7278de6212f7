use Rattle.std.proofs.Common.{◌≡◌, ◌∷◌, take, not}
use Rattle.std.specs.List.{filter}
use Rattle.bucket_ids.specs.Buckets.{covers}
use Rattle.view_changes.proofs.regions.regions_with.Given as goal

abbrev pub invariant-loop-region : goal.invariant-loop-region
invariant-loop-region l = l.all.items ≡ l.bucket ∷ filter (λ r. not (covers l.bucket r)) (take l.region-index l.regions)
