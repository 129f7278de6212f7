-- Whose operation a round is for.
use Rattle.std.specs.Prelude.{◌≡◌, ℕ, List, Option, None}
use Rattle.bucket_ids.specs.Buckets.{Low}
use Rattle.stamps.specs.declared.stamp.Stamp.{Stamp}
use Rattle.messages.specs.declared.operation.Operation.{Operation}
use Rattle.lane_journals.specs.Buckets.{key_of}
use Rattle.lane_journals.specs.Readers.{Journal, prepared}
use Rattle.lane_journals.specs.Meanings.{history}
use Rattle.lane_journals.specs.declared.event.LaneEvent.{LaneEvent}
use Rattle.operation_keeping.specs.OperationKeeping.{IsUnderWay}
use Rattle.operation_keeping.specs.Wants.{NoRoundSince}
use Rattle.round_keeping.specs.declared.round_run.RoundRun.{RoundRun}

-- the round that begins is for the operation of a line, which isn't prepared yet and whose search began no round of the row
-- before
pub record IsBegunFor (from : Journal) (lane : Low) (J : List LaneEvent) (x : RoundRun) (line : ℕ) (o : Operation) (stamp : Option Stamp) : Type 0 where
  pub under_way : IsUnderWay lane (history J) x.distributor x.state line o stamp
  pub unprepared : prepared line (history J) ≡ None
  pub key_is : x.key ≡ key_of o.id
  pub none : NoRoundSince J from (x.state).version (x.round).row

-- the round is for the operation of a line, which isn't prepared yet
pub record IsWaitedFor (lane : Low) (J : List LaneEvent) (x : RoundRun) (line : ℕ) (o : Operation) (stamp : Option Stamp) : Type 0 where
  pub under_way : IsUnderWay lane (history J) x.distributor x.state line o stamp
  pub unprepared : prepared line (history J) ≡ None
  pub key_is : x.key ≡ key_of o.id

-- a law of each operation that the round is for
abbrev pub OfWaited : Low → List LaneEvent → RoundRun → (ℕ → Operation → Type 0) → Type 0
OfWaited lane J x L = (line : ℕ) (o : Operation) (stamp : Option Stamp) → IsWaitedFor lane J x line o stamp → L line o
