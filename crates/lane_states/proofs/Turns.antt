-- Places for changes that are kept, as messages are delivered.
use Rattle.std.proofs.Common.{◌≡◌, ◌≤◌, ◌+◌, ℕ, suc, List, ◌∷◌, length, ap, arith}
use Rattle.messages.specs.declared.late.Late.{Late}
use Rattle.lane_states.specs.declared.lane_state.LaneState.{LaneState}
use Rattle.lane_states.specs.LaneStates.{HasPlaces}

pub fewer-places : (few many : ℕ) (x : LaneState) → few ≤ many → HasPlaces many x → HasPlaces few x
fewer-places few many x less places = omega (arith, less, places)

-- for the late messages of a lane, which are no more than those of another
pub places-late : (x e : LaneState) (many : ℕ) → e.late.late ≡ x.late.late → HasPlaces (length x.late.late + many) e → HasPlaces (length e.late.late + many) e
places-late x e many late places = let same : length e.late.late ≡ length x.late.late = ap (λ (ls : List Late). length ls) late in omega (arith, same, places)

pub places-first : (x : LaneState) (l : Late) (late rest : List Late) → late ≡ l ∷ rest → HasPlaces (length late) x → HasPlaces (length rest + 1) x
places-first x l late rest is places = let same : length late ≡ suc (length rest) = ap (λ (ls : List Late). length ls) is in omega (arith, same, places)
