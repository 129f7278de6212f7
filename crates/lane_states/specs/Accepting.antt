-- Rows that their active nodes accepted: what a lane remembers of the Activates that were answered.
use Rattle.std.specs.Prelude.{◌≡◌, ℕ, true, List, Some}
use Rattle.std.specs.List.{AllByRecursion}
use Rattle.bucket_ids.specs.Buckets.{Low, has_key}
use Rattle.bucket_db.specs.declared.row.Row.{Row}
use Rattle.distributor_part.specs.declared.rules.Rules.{Rules}
use Rattle.distributor_part.specs.Parts.{Part, rows_of, version_of}
use Rattle.lane_journals.specs.Readers.{Journal}
use Rattle.lane_journals.specs.Facts.{InRegion}
use Rattle.lane_journals.specs.Meanings.{history}
use Rattle.lane_journals.specs.declared.event.LaneEvent.{LaneEvent}
use Rattle.lane_keeping.specs.LaneKeeping.{part_in}

-- the node accepted Activates of the version over each key of the bucket
abbrev pub IsActiveAt : ℕ → Low → ℕ → Journal → Type 0
IsActiveAt v b n H = (key : ℕ) → has_key b key ≡ true → InRegion v n key H

-- the row has an active node, and this did so with the row's bucket
pub record HasAccepted (v : ℕ) (H : Journal) (row : Row) : Type 0 where
  pub node : ℕ
  pub active : row.active ≡ Some node
  pub keys : IsActiveAt v row.bucket node H

-- where it is said to have
abbrev pub IsAccepted : ℕ → Journal → Row → Type 0
IsAccepted v H row = row.accepted ≡ true → HasAccepted v H row

abbrev pub AreRowsAccepted : ℕ → Journal → List Row → Type 0
AreRowsAccepted v H rows = AllByRecursion (IsAccepted v H) rows

-- in a part its Activates are of the version that was heard last
abbrev pub IsPartAccepted : Journal → Part → Type 0
IsPartAccepted H p = AreRowsAccepted (version_of p.state) H (rows_of p.rows)

abbrev pub AreAccepted : Low → Rules → List LaneEvent → List Part → Type 0
AreAccepted lane rules J parts = (d : ℕ) → IsPartAccepted (history J) (part_in lane rules parts d)
