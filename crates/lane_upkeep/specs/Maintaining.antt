-- A lane whose owner may make a pass of upkeep.
use Rattle.std.specs.Prelude.{◌≡◌, ◌<◌, ℕ, true, false, List, None, length, vec_len}
use Rattle.bucket_ids.specs.Buckets.{Low}
use Rattle.carriers.specs.declared.fate.Fate.{Fate}
use Rattle.cluster_states.specs.Publishing.{serves}
use Rattle.lane_journals.specs.Facts.{Idle}
use Rattle.lane_journals.specs.Readers.{opened, stopped, returned}
use Rattle.lane_journals.specs.Meanings.{history}
use Rattle.lane_keeping.specs.Acting.{IsActing}
use Rattle.lane_states.specs.declared.lane_state.LaneState.{LaneState}
use Rattle.lane_states.specs.LaneStates.{journal_of, part_of, IsKept, HasRoom, IsCarriedBy, IsResting}
use Rattle.round_keeping.specs.RoundRuns.{NoneRuns}
use Rattle.upkeep_spans.specs.Spans.{later}
use Rattle.upkeep_spans.specs.Causes.{first_absent}
use Rattle.lane_upkeep.specs.declared.owner.Owner.{Owner}

-- the owner holds its state; no round is under way in the lane, no operation is prepared, and no job of the owner is
-- under way
pub record IsBetween (c : LaneState) (o : Owner) (given : List Fate) : Type 0 where
  pub keeps : IsKept c
  pub spare : HasRoom 0 c
  pub carried : IsCarriedBy c given
  pub there : o.distributor < vec_len c.parts
  pub acting : IsActing c.lane (journal_of c) o.distributor o.state
  pub resting : IsResting (part_of c o.distributor)
  pub none_runs : NoneRuns (journal_of c)
  pub idle : (v : ℕ) (b : Low) → Idle v b (history (journal_of c))

-- each message that was sent was returned
abbrev pub AreReturned : LaneState → LaneState → Type 0
AreReturned c e = first_absent (λ n. returned n (history (journal_of e))) (later (length (journal_of c)) (journal_of e)) ≡ None

-- the owner opened its state
abbrev pub HasOpened : LaneState → Owner → Type 0
HasOpened c o = opened (o.state).version (history (journal_of c)) ≡ true

-- each node that serves under the owner's state runs
abbrev pub HaveRun : LaneState → Owner → Type 0
HaveRun c o = (n : ℕ) → serves o.state n ≡ true → stopped n (history (journal_of c)) ≡ false
