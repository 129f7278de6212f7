use Rattle.std.proofs.Common.{◌≡◌, ◌++◌, length}
use Rattle.line_values.proofs.tokens.listed.Given as goal

-- those taken and those left are all
abbrev pub invariant-members : goal.invariant-members
invariant-members l = l.list.items ++ l.left.entries ≡ l.initial.left.entries

abbrev pub decreases-members : goal.decreases-members
decreases-members l = length l.left.entries
