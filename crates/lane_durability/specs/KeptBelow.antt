-- The events of versions below v, of a journal as it is kept.
use Rattle.std.specs.Prelude.{ℕ, List, [], ◌∷◌, if◌then◌else◌}
use Rattle.lane_journals.specs.Below.{kept}
use Rattle.lane_journals.specs.Meanings.{history, meaning}
use Rattle.lane_journals.specs.declared.event.LaneEvent.{LaneEvent}

abbrev pub kept_below : ℕ → List LaneEvent → List LaneEvent
kept_below v [] = []
kept_below v (e ∷ J) = if kept v (history J) (meaning J e) then e ∷ kept_below v J else kept_below v J
