use Rattle.std.proofs.Common.{◌≡◌, drop}
use Rattle.reports.specs.GroupText.{with_outputs, group_members}
use Rattle.reports.specs.Writing.{said_members}
use Rattle.reports.proofs.groups.said_of.Given as goal

-- what is said so far, with the outputs that are left, is what is said of the group
abbrev pub invariant-loop-output : goal.invariant-loop-output
invariant-loop-output l = with_outputs (drop l.output-index l.group.outputs) (said_members l.group.value l.said.entries) ≡ group_members l.group
