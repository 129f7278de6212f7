-- What a session on threads does at once: one line alone, or those of a segment together.
use Rattle.std.specs.Prelude.{◌≡◌, ◌⊎◌, ◌≤◌, ℕ, ◌-◌, Bool, true, false, List, [], ◌∷◌, ◌++◌, length, is_some, slice_get, if◌then◌else◌}
use Rattle.lane_calls.specs.Lines.{Lines}
use Rattle.session_cluster.specs.Asking.{IsOwnAsked}
use Rattle.session_cluster.specs.declared.asked.Asked.{Asked}
use Rattle.session_cluster.specs.declared.asked.Asked.TheVariants as command

-- ---- where a segment ends

-- the line ends a segment: it changes states, nodes, fates or upkeep, or it is a barrier
abbrev pub cuts : Asked → Bool
cuts command.Blank = false
cuts command.TooLong = false
cuts command.Barrier = true
cuts (command.Bad why) = false
cuts (command.Feed op via) = false
cuts (command.State state deaf) = true
cuts (command.BadState offset) = true
cuts (command.Stop node) = true
cuts (command.Start node) = true
cuts (command.Net lane fates) = true
cuts command.Maintain = true
cuts (command.Search query) = false
cuts (command.BadQuery offset) = false

-- none of the lines does
abbrev pub AreStill : List Asked → Type 0
AreStill [] = Unit {0}
AreStill (c ∷ cs) = (cuts c ≡ false) × AreStill cs

-- each asks for what may be asked in a session of 2^bits lanes
abbrev pub AreOwn : ℕ → List Asked → Type 0
AreOwn bits [] = Unit {0}
AreOwn bits (c ∷ cs) = IsOwnAsked bits c × AreOwn bits cs

-- ---- what is done at once

-- one line alone, or those of a segment together, where these of each lane were left without an outcome
pub data Part : Type 0 where
  Alone : Asked → Part
  Together : List Asked → (ℕ → Lines) → Part

abbrev pub asked_of : Part → List Asked
asked_of (Alone c) = c ∷ []
asked_of (Together cs left) = cs

-- the lines of parts, the oldest first
abbrev pub asked_in : List Part → List Asked
asked_in [] = []
asked_in (p ∷ ps) = asked_of p ++ asked_in ps

-- no line of a segment would end it
abbrev pub AreStillIn : List Part → Type 0
AreStillIn [] = Unit {0}
AreStillIn (Alone c ∷ ps) = AreStillIn ps
AreStillIn (Together cs left ∷ ps) = AreStill cs × AreStillIn ps

-- the most lines that are dealt with together
abbrev pub most_together : ℕ
most_together = 2048

-- a part may be followed by lines that are dealt with together only where no more fit into it
abbrev pub IsFull : List Asked → Type 0
IsFull cs = length cs ≡ most_together

-- a segment, perhaps of no line, stands before each line that cuts, and behind the last one; of a longer one each part is
-- full but the last
abbrev pub AreCut : List Part → Type 0
AreCut [] = ⊥
AreCut (Alone c ∷ ps) = ⊥
AreCut (Together cs left ∷ []) = AreStill cs × (length cs ≤ most_together)
AreCut (Together cs left ∷ Alone c ∷ ps) = AreStill cs × (length cs ≤ most_together) × (cuts c ≡ true) × AreCut ps
AreCut (Together cs left ∷ Together ds more ∷ ps) = AreStill cs × IsFull cs × AreCut (Together ds more ∷ ps)

-- each segment so far was ended by a line that cuts, or its last part is full
abbrev pub AreEnded : List Part → Type 0
AreEnded [] = Unit {0}
AreEnded (Alone c ∷ ps) = ⊥
AreEnded (Together cs left ∷ []) = AreStill cs × IsFull cs
AreEnded (Together cs left ∷ Alone c ∷ ps) = AreStill cs × (length cs ≤ most_together) × (cuts c ≡ true) × AreEnded ps
AreEnded (Together cs left ∷ Together ds more ∷ ps) = AreStill cs × IsFull cs × AreEnded (Together ds more ∷ ps)

-- a segment, and the line that ends it, and so on: the last part is either
abbrev pub AreInTurn : List Part → Type 0
AreInTurn ps = AreCut ps ⊎ AreEnded ps

-- memory was wanted for no line
abbrev pub NoneLeft : List Part → Type 0
NoneLeft [] = Unit {0}
NoneLeft (Alone c ∷ ps) = NoneLeft ps
NoneLeft (Together cs left ∷ ps) = ((lane : ℕ) → left lane ≡ []) × NoneLeft ps

-- ---- where a line is

-- the part has a line at this place, from 0
abbrev pub has_line : ℕ → Part → Bool
has_line at p = is_some (slice_get (asked_of p) at)

-- the parts before the one in which the line at a place is
abbrev pub parts_before : ℕ → List Part → List Part
parts_before at [] = []
parts_before at (p ∷ ps) = if has_line at p then [] else p ∷ parts_before (at - length (asked_of p)) ps

-- those, and that one
abbrev pub parts_to : ℕ → List Part → List Part
parts_to at [] = []
parts_to at (p ∷ ps) = if has_line at p then p ∷ [] else p ∷ parts_to (at - length (asked_of p)) ps
