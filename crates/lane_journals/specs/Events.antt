-- The events of a lane.
use Rattle.std.specs.Prelude.{ℕ, Bool, List, Option}
use Rattle.lane_journals.specs.Stamps.{Stamp}
use Rattle.lane_journals.specs.Buckets.{Bucket, Id}

-- for each document its stamp, if there is an entry
abbrev pub Content : Type 0
Content = Id → Option Stamp

pub data Body : Type 0 where
  Ask : Body
  -- all of a row
  Read : Bucket → Body
  ReadDoc : Id → Body
  Store : Id → Stamp → Body
  Apply : Bucket → Content → Body
  Delete : Bucket → ℕ → Body
  Split : Bucket → Body
  Join : Bucket → Body
  Ready : Bucket → Body
  Activate : Bucket → Body

pub data Reply : Type 0 where
  -- the entries, and which pieces are named with which serial
  Answer : Content → (Bucket → ℕ → Bool) → Reply
  Newer : ℕ → Reply
  NoBucket : Reply
  Differs : Reply
  NoMemory : Reply

pub data Decision : Type 0 where
  RoundBegun : Bucket → Decision
  RoundEnded : Bucket → (ℕ → Bool) → Decision
  RowSplit : Bucket → Decision
  RowsJoined : Bucket → Decision
  ActiveOn : Bucket → ℕ → Decision
  DeleteFrom : Bucket → ℕ → ℕ → Decision
  DeleteOver : Bucket → ℕ → Decision

pub data Event : Type 0 where
  -- version, its nodes that are up or retired
  Published : ℕ → (ℕ → Bool) → Event
  -- distributor, version
  Heard : ℕ → ℕ → Event
  -- line, distributor, version, id, stamp
  Begun : ℕ → ℕ → ℕ → Id → Option Stamp → Event
  -- distributor, version, rows
  Opened : ℕ → ℕ → List Bucket → Event
  -- line, row, recipients
  Prepared : ℕ → Bucket → (ℕ → Bool) → Event
  -- line, whether its entry has a document
  Wrote : ℕ → Bool → Event
  -- number, version, sender, receiver, body
  Sent : ℕ → ℕ → ℕ → ℕ → Body → Event
  Delivered : ℕ → Reply → Event
  Returned : ℕ → Event
  -- line, whether it is acknowledged
  Closed : ℕ → Bool → Event
  -- distributor, version, decision
  Decided : ℕ → ℕ → Decision → Event
  -- line, distributor, the version that it holds
  Refused : ℕ → ℕ → ℕ → Event
  Stopped : ℕ → Event
  Started : ℕ → Event
