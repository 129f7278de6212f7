use Rattle.std.proofs.Common.{◌≡◌, take}
use Rattle.lane_journals.specs.KeptJournals.{past}
use Rattle.lane_journals.specs.Places.{published_states}
use Rattle.lane_tables.proofs.journals.states_in.Given as goal

abbrev pub invariant-loop-at : goal.invariant-loop-at
invariant-loop-at l = (l.states.acks ≡ l.acks) × (l.states.states ≡ published_states (past (take l.at l.journal)))
