use Rattle.std.proofs.Common.{take}
use Rattle.lane_journals.specs.KeptJournals.{past}
use Rattle.lane_journals.specs.Meanings.{history}
use Rattle.lane_keeping.specs.Lines.{IsFresh}
use Rattle.lane_tables.proofs.journals.has_no_event.Given as goal

abbrev pub invariant-loop-at : goal.invariant-loop-at
invariant-loop-at l = IsFresh (history (past (take l.at l.journal))) l.line
