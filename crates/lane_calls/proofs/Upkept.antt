-- What a pass of upkeep leaves as it was.
use Rattle.std.proofs.Common.{ℕ, List, ◌∷◌}
use Rattle.lane_journals.specs.declared.event.LaneEvent.{LaneEvent}
use Rattle.lane_journals.specs.declared.event.LaneEvent.TheVariants as event
use Rattle.upkeep_spans.specs.Spans.{IsUpkeepEvent, AreUpkeep, Nothing, More}
use Rattle.lane_calls.specs.LaneValues.{LaneValue}
use Rattle.lane_calls.specs.Upkept.{Maintains, IsMaintained}
use Rattle.lane_calls.proofs.Leaving.{Leaves, leaves_itself, leaves-trans, leaves_event}
use Rattle.lane_calls.proofs.Quiet.{AddsFor}

-- its events are no more of a line than those that any line may add
pub upkeep_adds : (line d v : ℕ) (e : LaneEvent) → IsUpkeepEvent d v e → AddsFor line e
upkeep_adds line d v (event.Published s) h = absurd h
upkeep_adds line d v (event.Heard f w) h = absurd h
upkeep_adds line d v (event.Begun l f w id s) h = absurd h
upkeep_adds line d v (event.Refused l f x) h = absurd h
upkeep_adds line d v (event.Closed l x) h = absurd h
upkeep_adds line d v (event.Stopped n) h = absurd h
upkeep_adds line d v (event.Started n) h = absurd h
upkeep_adds line d v (event.Prepared l b set) h = absurd h
upkeep_adds line d v (event.Wrote l entry) h = absurd h
upkeep_adds line d v (event.Opened f w rows) h = tt
upkeep_adds line d v (event.Sent k w f n b) h = tt
upkeep_adds line d v (event.Delivered k r) h = tt
upkeep_adds line d v (event.Returned k) h = tt
upkeep_adds line d v (event.Decided f w x) h = tt

pub leaves_upkeep : (line d v : ℕ) (J K : List LaneEvent) → AreUpkeep d v J K → Leaves line J K
leaves_upkeep line d v J K Nothing = leaves_itself line J
leaves_upkeep line d v J K (More L e is before) = leaves-trans line J L (e ∷ L) (leaves_upkeep line d v J L before) (leaves_event line L e (upkeep_adds line d v e is))

-- the pass that a lane made, by its journal
pub pass_made : (old new : LaneValue) → Maintains old new → IsMaintained old.lane old.journal new.journal
pass_made old new m = record { state = m.state; newest = m.newest; owner = m.owner; owns = m.owns; pass = m.pass }

-- what holds before each of its events holds before all of them
pub upkeep_down : (P : List LaneEvent → Type 0) (d v : ℕ) → ((e : LaneEvent) (L : List LaneEvent) → IsUpkeepEvent d v e → P (e ∷ L) → P L) → (J K : List LaneEvent) → AreUpkeep d v J K → P K → P J
upkeep_down P d v step J K Nothing p = p
upkeep_down P d v step J K (More L e is before) p = upkeep_down P d v step J L before (step e L is p)
