use Rattle.std.proofs.Common.{◌≡◌, take, filter}
use Rattle.sub_databases.specs.Changes.{is_waiting}
use Rattle.sub_databases.proofs.filling.waiting.Given as goal

-- those of the entries so far that wait
abbrev pub invariant-loop-entry : goal.invariant-loop-entry
invariant-loop-entry l = l.waiting.items ≡ filter (is_waiting l.rows.rows) (take l.entry-index l.entries)
