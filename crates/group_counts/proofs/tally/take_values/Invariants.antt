use Rattle.std.proofs.Common.{◌≡◌, ◌+◌, ◌-◌, ◌≤◌, ℕ, None, length, take, get_or}
use Rattle.documents.specs.Fields.{Contents}
use Rattle.group_counts.specs.Tallies.{next_values, AreSmall}
use Rattle.group_counts.specs.Figures.{AreFigures}
use Rattle.group_counts.proofs.tally.take_values.Given as goal

abbrev pub invariant-loop-at : goal.invariant-loop-at
invariant-loop-at l = ((d : Contents) → AreFigures l.kinds d l.slots → l.values ≡ next_values (take l.at l.kinds) d l.initial.values)
    × ((n : ℕ) → AreSmall n l.initial.values → AreSmall (n + 1) l.values)
    × ((i : ℕ) → l.at ≤ i → get_or l.values i None ≡ get_or l.initial.values i None)
    × (length l.values ≡ length l.initial.values)

abbrev pub decreases-loop-at : goal.decreases-loop-at
decreases-loop-at l = length l.initial.kinds - l.at
