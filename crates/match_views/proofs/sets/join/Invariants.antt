use Rattle.std.proofs.Common.{◌≡◌, ◌++◌, ◌≤◌, ◌+◌, ◌-◌, length, drop}
use Rattle.match_views.specs.Merging.{joined}
use Rattle.match_views.proofs.sets.join.Given as goal

abbrev pub invariant-loop-i : goal.invariant-loop-i
invariant-loop-i l = (l.all.items ++ joined (drop l.i l.xs) (drop l.j l.ys) ≡ joined l.xs l.ys) × (l.i ≤ length l.xs) × (l.j ≤ length l.ys)

abbrev pub decreases-loop-i : goal.decreases-loop-i
decreases-loop-i l = (length l.initial.xs - l.i) + (length l.initial.ys - l.j)
