use Rattle.std.proofs.Common.{◌≡◌, ◌+◌, ◌-◌, ◌≤◌, length, drop}
use Rattle.stamps.specs.Places.{first_of}
use Rattle.stamps.proofs.places.first_of.Given as goal

-- the versions so far are others
abbrev pub invariant-loop-at : goal.invariant-loop-at
invariant-loop-at l = (l.at ≤ length l.versions) × (l.at + first_of l.version (drop l.at l.versions) ≡ first_of l.version l.versions)

abbrev pub decreases-loop-at : goal.decreases-loop-at
decreases-loop-at l = length l.versions - l.at
