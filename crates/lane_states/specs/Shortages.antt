-- Nodes that want memory, over the messages that were sent behind a number.
use Rattle.std.specs.Prelude.{◌≡◌, ◌<◌, ◌≤◌, ℕ, Bool, false, List}
use Rattle.lane_journals.specs.declared.event.LaneEvent.{LaneEvent}
use Rattle.lane_states.specs.Growing.{IsSettled}
use Rattle.lane_states.specs.declared.at_shortage.AtShortage.{AtShortage}
use Rattle.lane_states.specs.declared.at_shortage.AtShortage.TheVariants as at_shortage

-- whether what is under way ends, by whether a node wants memory
abbrev pub ends_at : AtShortage → Bool → Bool
ends_at at_shortage.GoOn short = false
ends_at at_shortage.End short = short

-- what holds where a shortage ends what is under way
abbrev pub WhereItEnds : AtShortage → Type 0 → Type 0
WhereItEnds at P = at ≡ at_shortage.End → P

-- none of the messages above one number up to another came back as the want of memory of its node, nor will it
abbrev pub NoneIsShort : ℕ → ℕ → List LaneEvent → Type 0
NoneIsShort last now J = (k : ℕ) → last < k → k ≤ now → IsSettled k J false

-- only the last one may have: nothing was sent behind such a reply
abbrev pub EndsAtOnce : ℕ → ℕ → List LaneEvent → Type 0
EndsAtOnce last now J = (k : ℕ) → last < k → k < now → IsSettled k J false
