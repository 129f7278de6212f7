-- A lane with its shelf, as its callers see it.
use Rattle.std.specs.Prelude.{◌≡◌, ◌++◌, List, refl}
use Rattle.std.specs.Coded.{Coded, code_by, coded×}
use Rattle.view_changes.specs.declared.change.LaneChange.{LaneChange}
use Rattle.shelves.specs.Shelves.{Holds}
use Rattle.lane_calls.specs.LaneValues.{LaneValue, lane_code}

pub record Shelved (H : Type 0) : Type 0 where
  pub lane : LaneValue
  pub shelf : H

abbrev pub shelved_code : {H : Type 0} → Coded H → Coded (Shelved H)
shelved_code {H} d = code_by (LaneValue × H) (coded× lane_code d) (λ s. (s.lane, s.shelf)) (λ p. record { lane = p.0; shelf = p.1 }) (λ _. refl)

-- the same, but that its lane is another
abbrev pub with_lane : {H : Type 0} → (LaneValue → LaneValue) → Shelved H → Shelved H
with_lane f s = record s { lane = f s.lane }

-- it holds of its lane
abbrev pub OfLane : {H : Type 0} → (LaneValue → Type 0) → Shelved H → Type 0
OfLane P s = P s.lane

-- what a shelf has, shown and then pending, are the first of these changes, perhaps all
abbrev pub HoldsFirst : (List LaneChange → Type 0) → List LaneChange → List LaneChange → Type 0
HoldsFirst shows pending all = (first : List LaneChange) × ((rest : List LaneChange) × (Holds shows pending first × (first ++ rest ≡ all)))
