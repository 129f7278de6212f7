use Rattle.std.proofs.Common.{◌≡◌, ◌+◌, ◌-◌, ℕ, length}
use Rattle.local_ids.specs.Places.{map_from}
use Rattle.local_ids.proofs.local_map.reach.Given as goal

abbrev pub invariant-loop-places : goal.invariant-loop-places
invariant-loop-places g l = (n : ℕ) → map_from n l.places.items ≡ map_from n l.initial.places.items

abbrev pub decreases-loop-places : goal.decreases-loop-places
decreases-loop-places g l = (l.at + 1) - length l.places.items
