-- When a pass leaves its lane at rest.
use Rattle.std.specs.Prelude.{◌≡◌, ◌≤◌, List, Some}
use Rattle.carriers.specs.declared.fate.Fate.{Fate}
use Rattle.bucket_db.specs.Rows.{AreRows, buckets_of}
use Rattle.lane_keeping.specs.LaneKeeping.{setting_of}
use Rattle.lane_states.specs.declared.lane_state.LaneState.{LaneState}
use Rattle.lane_states.specs.LaneStates.{journal_of, IsSetUp}
use Rattle.lane_rest.specs.Rest.{IsAtRest}
use Rattle.upkeep_spans.specs.Causes.{IsUndisturbed}
use Rattle.lane_upkeep.specs.declared.owner.Owner.{Owner}
use Rattle.lane_upkeep.specs.Passing.{IsPassing, PassesOn, rows_in}
use Rattle.lane_upkeep.specs.Quiet.{DoesQuietly, PassesQuietly}

-- the lane is at rest, as its journal says
abbrev pub IsLaneAtRest : LaneState → Type 0
IsLaneAtRest e = IsAtRest (setting_of e.lane e.rules) (e.rules).searchable (e.rules).split_at (journal_of e)

-- where its setting can be kept, it is so behind a span in which nothing was lost or late
abbrev pub RestsWhereQuiet : List Fate → LaneState → LaneState → Type 0
RestsWhereQuiet now c e = IsSetUp e.lane e.rules → (e.rules).searchable ≤ (e.rules).redundancy → IsUndisturbed now (journal_of c) (journal_of e) → IsLaneAtRest e

-- the owner opened its state under the newest one, if it wasn't opened, and then made a pass
pub record OpensAndPasses (c m e : LaneState) (o : Owner) (given now : List Fate) : Type 0 where
  pub newest : c.newest ≡ Some o.state
  pub opening : PassesOn c m o
  pub between : IsPassing m o given
  pub whole : AreRows m.lane (buckets_of (rows_in m o))
  pub pass : PassesOn m e o
  pub passing : IsPassing e o now
  pub does : DoesQuietly given now m e o (λ d s. PassesQuietly d s m e o)
