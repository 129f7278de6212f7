use Rattle.std.proofs.Common.{◌+◌, ◌-◌, ◌*◌, length}
use Rattle.line_values.specs.View.{members_view}
use Rattle.line_values.proofs.Loops.{AreItems, AreMembers}
use Rattle.line_values.proofs.tokens.+read_value.Given as goal

abbrev pub decreases-read_value : goal.decreases-read_value
decreases-read_value l = 3 * l.depth + 2

abbrev pub decreases-read_array : goal.decreases-read_array
decreases-read_array l = 3 * l.depth

abbrev pub decreases-read_object : goal.decreases-read_object
decreases-read_object l = 3 * l.depth + 1

abbrev pub invariant-read_array-items : goal.invariant-read_array-items
invariant-read_array-items l = AreItems (l.depth - 1) l.initial.reader l.reader l.found.items

abbrev pub decreases-read_array-items : goal.decreases-read_array-items
decreases-read_array-items l = length l.reader

abbrev pub invariant-read_object-members : goal.invariant-read_object-members
invariant-read_object-members l = AreMembers (l.depth - 1) l.initial.reader l.reader (members_view l.found.items)

abbrev pub decreases-read_object-members : goal.decreases-read_object-members
decreases-read_object-members l = length l.reader

abbrev pub decreases-read_many : goal.decreases-read_many
decreases-read_many l = 3 * l.depth

abbrev pub invariant-read_many-members : goal.invariant-read_many-members
invariant-read_many-members l = AreMembers (l.depth - 1) l.initial.reader l.reader (members_view l.found.entries)

abbrev pub decreases-read_many-members : goal.decreases-read_many-members
decreases-read_many-members l = length l.reader
