-- What a lane keeps behind its value: its work, messages that are carried by the fates of its carrier, and a shelf that
-- has what was handed over to it.
use Rattle.std.specs.Prelude.{List}
use Rattle.carriers.specs.declared.fate.Fate.{Fate}
use Rattle.view_changes.specs.declared.change.LaneChange.{LaneChange}
use Rattle.shelves.specs.Shelves.{Holds}
use Rattle.lane_core.specs.declared.work.Work.{Work}
use Rattle.lane_core.specs.Works.{IsWork}
use Rattle.lane_states.specs.LaneStates.{handed_of, IsCarriedBy}

pub record IsLane {H : Type 0} (shows : H → List LaneChange → Type 0) (pending : H → List LaneChange) (w : Work) (given : List Fate) (shelf : H) : Type 0 where
  pub works : IsWork w
  pub carried : IsCarriedBy w.state given
  pub holds : Holds (shows shelf) (pending shelf) (handed_of w.state)
