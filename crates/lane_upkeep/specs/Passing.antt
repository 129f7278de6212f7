-- A pass of upkeep under way: what holds of the lane between its steps, and what each of them leaves.
use Rattle.std.specs.Prelude.{◌≡◌, ◌<◌, ℕ, true, List, Some, slice_get, vec_len}
use Rattle.bucket_ids.specs.Buckets.{Low}
use Rattle.cluster_states.specs.Publishing.{serves}
use Rattle.carriers.specs.declared.fate.Fate.{Fate}
use Rattle.messages.specs.declared.body.Body.{Body}
use Rattle.bucket_db.specs.Rows.{Rows, AreRows, buckets_of}
use Rattle.bucket_db.specs.declared.row.Row.{Row}
use Rattle.distributor_part.specs.Parts.{rows_of}
use Rattle.distributor_part.specs.Steps.{IsOpened}
use Rattle.lane_journals.specs.Facts.{Idle}
use Rattle.lane_journals.specs.Meanings.{history}
use Rattle.lane_keeping.specs.Flights.{NamesBucket}
use Rattle.lane_keeping.specs.Acting.{IsActing}
use Rattle.lane_keeping.specs.Asking.{OthersStay}
use Rattle.row_keeping.specs.Telling.{IsOfRow}
use Rattle.lane_states.specs.declared.lane_state.LaneState.{LaneState}
use Rattle.lane_states.specs.LaneStates.{journal_of, part_of, IsKept, HasRoom, IsCarriedBy, IsResting}
use Rattle.round_keeping.specs.RoundRuns.{NoneRuns}
use Rattle.upkeep_spans.specs.Spans.{AreUpkeep}
use Rattle.lane_upkeep.specs.declared.owner.Owner.{Owner}

-- the owner opened its state; no round is under way in the lane, no operation is prepared, and no job of the owner is
-- under way
pub record IsPassing (c : LaneState) (o : Owner) (given : List Fate) : Type 0 where
  pub keeps : IsKept c
  pub spare : HasRoom 0 c
  pub carried : IsCarriedBy c given
  pub there : o.distributor < vec_len c.parts
  pub acting : IsActing c.lane (journal_of c) o.distributor o.state
  pub rows : Rows
  pub opened : IsOpened (part_of c o.distributor) o.state rows
  pub resting : IsResting (part_of c o.distributor)
  pub none_runs : NoneRuns (journal_of c)
  pub idle : (v : ℕ) (b : Low) → Idle v b (history (journal_of c))

-- the lane went on by events of the pass; of the parts just the owner's is another
pub record PassesOn (c e : LaneState) (o : Owner) : Type 0 where
  pub others : OthersStay c.lane c.rules c.parts.items e.parts.items o.distributor
  pub parts : vec_len e.parts ≡ vec_len c.parts
  pub after : e ≡ record c { journal = e.journal; last = e.last; nodes = e.nodes; parts = e.parts; late = e.late }
  pub grows : AreUpkeep o.distributor (o.state).version (journal_of c) (journal_of e)

-- ---- rows

-- the owner's rows
abbrev pub rows_in : LaneState → Owner → List Row
rows_in c o = rows_of (part_of c o.distributor).rows

-- they divide the lane
abbrev pub AreWhole : LaneState → Owner → Type 0
AreWhole c o = AreRows c.lane (buckets_of (rows_in c o))

-- the row of a place
abbrev pub HasRow : LaneState → Owner → ℕ → Row → Type 0
HasRow c o at row = slice_get (rows_in c o) at ≡ Some row

-- the owner may say this of one of its rows to the node
pub record MayTell (c : LaneState) (o : Owner) (node : ℕ) (body : Body) : Type 0 where
  pub at : ℕ
  pub row : Row
  pub found : HasRow c o at row
  pub serving : serves o.state node ≡ true
  pub valid : NamesBucket body
  pub of_row : IsOfRow row node body

-- the lane is between two steps of a pass, whatever fates were given
abbrev pub Passes : LaneState → Owner → Type 0
Passes c o = (given : List Fate) × IsPassing c o given
