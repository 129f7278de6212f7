use Rattle.std.proofs.Common.{◌≡◌, ◌-◌, length}
use Rattle.line_values.proofs.Members.{AtPlace}
use Rattle.line_values.proofs.line_value.put.Given as goal

abbrev pub invariant-places : goal.invariant-places
invariant-places l = (l.members.items ≡ l.initial.members.items) × AtPlace l.key l.value l.members.items l.at

abbrev pub decreases-places : goal.decreases-places
decreases-places l = length l.members.items - l.at
