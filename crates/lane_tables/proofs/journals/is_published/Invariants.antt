use Rattle.std.proofs.Common.{◌≡◌, true, take}
use Rattle.std.specs.Option.{IsSome}
use Rattle.lane_journals.specs.KeptJournals.{past}
use Rattle.lane_keeping.specs.Tidings.{last_state}
use Rattle.lane_tables.proofs.journals.is_published.Given as goal

abbrev pub invariant-loop-at : goal.invariant-loop-at
invariant-loop-at l = l.published ≡ true → IsSome (last_state (past (take l.at l.journal)))
