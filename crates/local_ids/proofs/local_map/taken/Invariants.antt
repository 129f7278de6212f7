use Rattle.std.proofs.Common.{◌≡◌, ◌≤◌, ℕ, None, length, get_or}
use Rattle.local_ids.proofs.local_map.taken.Given as goal

abbrev pub invariant-loop-count : goal.invariant-loop-count
invariant-loop-count g l = (l.count ≤ length l.places) × ((q : ℕ) → l.count ≤ q → get_or l.places q None ≡ None)

abbrev pub decreases-loop-count : goal.decreases-loop-count
decreases-loop-count g l = l.count
