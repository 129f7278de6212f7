use Rattle.std.proofs.Common.{◌≡◌, ℕ, List, sym, subst}
use Rattle.lane_locks.specs.Lanes.{EachAt}
use Rattle.lane_locks.proofs.locks.SegmentLocks.locks.Goals as goal

pub returns-clause-numbers : goal.returns-clause-numbers
returns-clause-numbers g c = subst (λ (ns : List ℕ). EachAt (λ place n. n ≡ place) ns) (sym c.as_slice.ensures.value) c.self.invariant.9
