-- Legal journals with the states read off the journal.
use Rattle.std.specs.Prelude.{◌==◌, ℕ, Bool, false, [], ◌∷◌, if◌then◌else◌}
use Rattle.lane_journals.specs.Events.{Published}
use Rattle.lane_journals.specs.Readers.{Journal}
use Rattle.lane_journals.specs.Legal.{Permits}

-- whether the node is up or retired in the state of the version
abbrev pub state_of : Journal → ℕ → ℕ → Bool
state_of [] v n = false
state_of (Published w set ∷ J) v n = if w == v then set n else state_of J v n
state_of (_ ∷ J) v n = state_of J v n

abbrev pub LegalByStates : ℕ → Journal → Type 0
LegalByStates acks [] = Unit {0}
LegalByStates acks (e ∷ J) = LegalByStates acks J × Permits acks (state_of (e ∷ J)) J e
