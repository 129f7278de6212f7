use Rattle.std.proofs.Common.{◌≡◌, List, take}
use Rattle.carriers.specs.declared.fate.Fate.{Fate}
use Rattle.lane_journals.specs.KeptJournals.{past}
use Rattle.lane_carriage.specs.Readers.{last_sent}
use Rattle.upkeep_spans.specs.Spans.{earlier}
use Rattle.upkeep_spans.specs.Watches.{KnowsAtOnce}
use Rattle.upkeep_spans.specs.Scans.{ArePlaced, IsSeen}
use Rattle.upkeep_spans.proofs.scan.seen_behind.Given as goal

-- what is seen of the events so far
abbrev pub invariant-loop-i : goal.invariant-loop-i
invariant-loop-i l = l.sent ≡ last_sent (earlier l.from (past l.journal)) → (given : List Fate) → KnowsAtOnce l.sent l.at_once given → ArePlaced given (past (take l.i l.journal)) → IsSeen given l.from l.sent (past (take l.i l.journal)) l.seen
