use Rattle.std.proofs.Common.{◌≡◌, ◌+◌, ◌-◌, ◌≤◌, length, drop}
use Rattle.documents.specs.Fields.{pairs}
use Rattle.documents.specs.Places.{place}
use Rattle.documents.proofs.field_lists.place_of.Given as goal

-- the fields so far have lesser names
abbrev pub invariant-loop-at : goal.invariant-loop-at
invariant-loop-at l = (l.at ≤ length l.fields) × (l.at + place l.name (pairs (drop l.at l.fields)) ≡ place l.name (pairs l.fields))

abbrev pub decreases-loop-at : goal.decreases-loop-at
decreases-loop-at l = length l.fields - l.at
