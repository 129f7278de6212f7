-- What a lane shows of its nodes and its parts.
use Rattle.std.specs.Prelude.{◌≡◌, ℕ, List, Option, None, Some, IfSome}
use Rattle.std.specs.FinMap as fin
use Rattle.bucket_ids.specs.Buckets.{Low}
use Rattle.entry_maps.specs.EntryCodes.{Entries}
use Rattle.bucket_db.specs.Rows.{AreRows, buckets_of}
use Rattle.bucket_db.specs.declared.row.Row.{Row}
use Rattle.distributor_part.specs.declared.rules.Rules.{Rules}
use Rattle.distributor_part.specs.Parts.{Part, rows_of}
use Rattle.node_model.specs.Nodes.{Node, new_node}
use Rattle.lane_journals.specs.Buckets.{Id}
use Rattle.lane_journals.specs.Readers.{store}
use Rattle.lane_journals.specs.Meanings.{history}
use Rattle.lane_journals.specs.declared.event.LaneEvent.{LaneEvent}
use Rattle.lane_keeping.specs.NodeKeeping.{stamp_of}
use Rattle.lane_keeping.specs.LaneKeeping.{PartKeeps}

abbrev pub node_or_new : Option Node → Node
node_or_new None = new_node
node_or_new (Some x) = x

-- the entries are those that the journal says that the node holds
pub record HasEntries (J : List LaneEvent) (n many : ℕ) : Type 0 where
  pub entries : Entries
  pub are_held : (id : Id) → stamp_of (fin.get entries id) ≡ store n id (history J)
  pub so_many : many ≡ fin.len entries

-- the rows are those of the distributor's part, which is what the journal says
pub record HasRows (lane : Low) (rules : Rules) (J : List LaneEvent) (d : ℕ) (rows : List Row) : Type 0 where
  pub part : Part
  pub keeps : PartKeeps lane rules J d part
  pub are : rows ≡ rows_of part.rows
  -- they part the lane, in rising order
  pub whole : IfSome part.rows (λ d. AreRows part.lane (buckets_of d.rows))
