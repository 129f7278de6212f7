use Rattle.std.proofs.Common.{◌≡◌, take}
use Rattle.sub_databases.specs.Uniting.{without_all}
use Rattle.sub_databases.proofs.uniting.forget_all.Given as goal

abbrev pub invariant-loop-at : goal.invariant-loop-at
invariant-loop-at l = l.entries ≡ without_all (take l.at l.list) l.initial.entries
