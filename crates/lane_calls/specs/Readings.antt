-- What is read off a journal: how a line ended, and what was told of states and nodes.
use Rattle.std.specs.Prelude.{◌==◌, ℕ, List, [], ◌∷◌, Option, None}
use Rattle.messages.specs.declared.outcome.Outcome.{Outcome}
use Rattle.lane_journals.specs.Readers.{or_else, only_if}
use Rattle.lane_journals.specs.declared.event.LaneEvent.{LaneEvent}
use Rattle.lane_journals.specs.declared.event.LaneEvent.TheVariants.{Published, Refused, Closed, Stopped, Started}

-- the outcome that a line was closed or refused with
abbrev pub outcome_in : ℕ → List LaneEvent → Option Outcome
outcome_in k [] = None
outcome_in k (Closed l outcome ∷ J) = or_else (outcome_in k J) (only_if (l == k) outcome)
outcome_in k (Refused l d outcome ∷ J) = or_else (outcome_in k J) (only_if (l == k) outcome)
outcome_in k (_ ∷ J) = outcome_in k J

-- the events of states and nodes
abbrev pub told_events : List LaneEvent → List LaneEvent
told_events [] = []
told_events (Published s ∷ J) = Published s ∷ told_events J
told_events (Stopped n ∷ J) = Stopped n ∷ told_events J
told_events (Started n ∷ J) = Started n ∷ told_events J
told_events (_ ∷ J) = told_events J
