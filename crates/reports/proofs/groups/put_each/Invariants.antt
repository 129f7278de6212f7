use Rattle.std.proofs.Common.{take}
use Rattle.std.specs.List.{flat_map}
use Rattle.reports.specs.Writing.{Puts, group_tokens}
use Rattle.reports.proofs.groups.put_each.Given as goal

-- the tokens so far
abbrev pub invariant-loop-group : goal.invariant-loop-group
invariant-loop-group l = Puts l.initial.out l.out (flat_map group_tokens (take l.group-index l.groups))
