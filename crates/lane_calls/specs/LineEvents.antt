-- Which events begin or answer a line, and how many do.
use Rattle.std.specs.Prelude.{◌≡◌, ◌==◌, ◌+◌, ℕ, Bool, false, List, [], ◌∷◌, if◌then◌else◌}
use Rattle.lane_journals.specs.declared.event.LaneEvent.{LaneEvent}
use Rattle.lane_journals.specs.declared.event.LaneEvent.TheVariants.{Begun, Refused, Closed}

-- the event begins the line, or refuses it
abbrev pub StartsLine : ℕ → LaneEvent → Type 0
StartsLine n (Begun l d v id stamp) = l ≡ n
StartsLine n (Refused l d outcome) = l ≡ n
StartsLine n _ = ⊥

-- the event closes the line, or refuses it
abbrev pub answers_line : ℕ → LaneEvent → Bool
answers_line n (Closed l outcome) = l == n
answers_line n (Refused l d outcome) = l == n
answers_line n _ = false

-- how many do
abbrev pub answers : ℕ → List LaneEvent → ℕ
answers n [] = 0
answers n (e ∷ J) = if answers_line n e then answers n J + 1 else answers n J
