use Rattle.std.proofs.Common.{◌≡◌}
use Rattle.machine_tables.proofs.row_work.split_each.Given as goal

abbrev pub invariant-loop : goal.invariant-loop
invariant-loop l = l.db.lane ≡ l.fn.db.lane
