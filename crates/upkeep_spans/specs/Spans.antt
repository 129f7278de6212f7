-- By which events an upkeep lets a journal grow.
use Rattle.std.specs.Prelude.{◌≡◌, ◌-◌, ℕ, List, [], ◌∷◌, length, take, drop, Some, None}
use Rattle.messages.specs.declared.noted.NotedBody.{NotedBody}
use Rattle.messages.specs.declared.noted.NotedBody.TheVariants.{Ask, Read, Store, Apply, Delete, Split, Join, Ready, Activate}
use Rattle.lane_journals.specs.declared.event.LaneEvent.{LaneEvent}
use Rattle.lane_journals.specs.declared.event.LaneEvent.TheVariants.{Opened, Sent, Delivered, Returned, Decided}

-- what an upkeep sends: nothing that speaks of one document
abbrev pub IsUpkeepBody : NotedBody → Type 0
IsUpkeepBody (Read b (Some id)) = ⊥
IsUpkeepBody (Read b None) = Unit {0}
IsUpkeepBody (Store s) = ⊥
IsUpkeepBody _ = Unit {0}

-- the distributor opens its version, sends a message or decides of a row under it; a message of anybody is delivered, and
-- its reply returned
abbrev pub IsUpkeepEvent : ℕ → ℕ → LaneEvent → Type 0
IsUpkeepEvent d v (Opened e w rows) = (e ≡ d) × (w ≡ v)
IsUpkeepEvent d v (Sent n w e to body) = (e ≡ d) × (w ≡ v) × IsUpkeepBody body
IsUpkeepEvent d v (Delivered n r) = Unit {0}
IsUpkeepEvent d v (Returned n) = Unit {0}
IsUpkeepEvent d v (Decided e w x) = (e ≡ d) × (w ≡ v)
IsUpkeepEvent d v _ = ⊥

-- the journal grew by such events of a distributor under a version
pub data AreUpkeep (d v : ℕ) (J : List LaneEvent) : List LaneEvent → Type 0 where
  Nothing : AreUpkeep d v J J
  More : (K : List LaneEvent) (e : LaneEvent) → IsUpkeepEvent d v e → AreUpkeep d v J K → AreUpkeep d v J (e ∷ K)

-- the events behind the first so many, and those first ones
abbrev pub later : ℕ → List LaneEvent → List LaneEvent
later from J = take (length J - from) J

abbrev pub earlier : ℕ → List LaneEvent → List LaneEvent
earlier from J = drop (length J - from) J

-- a law of each journal and what an upkeep makes of it
abbrev pub OfUpkeep : (List LaneEvent → List LaneEvent → Type 0) → Type 0
OfUpkeep L = (d v : ℕ) (J K : List LaneEvent) → AreUpkeep d v J K → L J K
