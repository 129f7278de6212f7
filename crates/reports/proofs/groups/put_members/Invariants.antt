use Rattle.std.proofs.Common.{◌≡◌, ◌++◌}
use Rattle.std.specs.List.{flat_map}
use Rattle.reports.specs.Writing.{said_tokens}
use Rattle.reports.proofs.groups.put_members.Given as goal

-- the tokens so far and those that are left are all
abbrev pub invariant-loop-key : goal.invariant-loop-key
invariant-loop-key l = (l.out.before ≡ l.initial.out.before) × (l.out.tokens ++ flat_map (said_tokens l.value) l.key-iterator ≡ l.initial.out.tokens ++ flat_map (said_tokens l.value) l.members.entries)
