-- Which distributors heard which states.
use Rattle.std.specs.Prelude.{◌≡◌, ◌<◌, ℕ, false, List, ◌∷◌, ◌++◌, Some, slice_get}
use Rattle.node_sets.specs.Members.{has_node}
use Rattle.lane_journals.specs.Meanings.{history}
use Rattle.lane_journals.specs.Readers.{held}
use Rattle.lane_journals.specs.declared.event.LaneEvent.{LaneEvent}
use Rattle.lane_journals.specs.declared.event.LaneEvent.TheVariants.{Heard}
use Rattle.lane_calls.specs.LaneValues.{LaneValue}
use Rattle.lane_lives.specs.declared.setting.Setting.{Setting}
use Rattle.lane_promises.specs.Hearings.{deaf_in, HeardNewest}
use Rattle.lane_lives.specs.Lives.{Deed, newest_in}
use Rattle.lane_lives.specs.Serving.{bucket_in}
use Rattle.session_cluster.specs.Cells.{Cell}

-- so it is where these deeds were done in each lane
pub record HaveHeard (s : Setting) (deeds : ℕ → List Deed) (c : Cell) : Type 0 where
  -- a distributor that isn't deaf to the newest state holds it
  pub holds : (lane : ℕ) (v : LaneValue) → slice_get c.lanes lane ≡ Some v → (d : ℕ) → d < 32
      → has_node (deaf_in (deeds lane)) d ≡ false
      → held d (history v.journal) ≡ Some (newest_in s (deeds lane)).version
  -- each hearing is of the state that was published last, by a distributor that isn't deaf to it, or by the lane's
  -- owner under it
  pub hears : (lane : ℕ) (v : LaneValue) → slice_get c.lanes lane ≡ Some v
      → (after before : List LaneEvent) (d version : ℕ) → v.journal ≡ after ++ Heard d version ∷ before
      → HeardNewest s (bucket_in s lane) (deeds lane) before d version
