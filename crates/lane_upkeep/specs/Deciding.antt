-- What a decision of the owner leaves.
use Rattle.std.specs.Prelude.{◌≡◌, ℕ, ◌∷◌, Some}
use Rattle.bucket_ids.specs.Buckets.{Low}
use Rattle.messages.specs.declared.decision.Decision.{Decision}
use Rattle.messages.specs.declared.decision.Decision.TheVariants.{RowSplit, RowsJoined, ActiveOn, DeleteFrom, DeleteOver}
use Rattle.bucket_db.specs.declared.row.Deleting.{Deleting}
use Rattle.bucket_db.specs.declared.row.Row.{Row}
use Rattle.distributor_part.specs.Upkeep.{SplitsRow, JoinsRows, ActivatesAt, AcceptsAt, BeginsDelete, EndsDelete}
use Rattle.lane_journals.specs.Meanings.{history}
use Rattle.lane_journals.specs.declared.event.LaneEvent.TheVariants.{Decided}
use Rattle.row_keeping.specs.Deciding.{IsDeleteOver}
use Rattle.lane_states.specs.declared.lane_state.LaneState.{LaneState}
use Rattle.lane_states.specs.LaneStates.{journal_of, part_of}
use Rattle.lane_upkeep.specs.declared.owner.Owner.{Owner}
use Rattle.lane_upkeep.specs.Passing.{HasRow}

-- this was decided, and of the lane just the journal and the parts are others
pub record Decides (c e : LaneState) (o : Owner) (x : Decision) : Type 0 where
  pub grows : journal_of e ≡ Decided o.distributor (o.state).version x ∷ journal_of c
  pub after : e ≡ record c { journal = e.journal; parts = e.parts }

-- nothing was decided
pub record DecidesNothing (c e : LaneState) (o : Owner) : Type 0 where
  pub journal : journal_of e ≡ journal_of c
  pub after : e ≡ record c { journal = e.journal; parts = e.parts }

-- ---- what the owner's part does with it

abbrev pub DidSplit : LaneState → LaneState → Owner → ℕ → Type 0
DidSplit c e o at = (x : SplitsRow (part_of c o.distributor) (part_of e o.distributor) at) × Decides c e o (RowSplit (x.row).bucket)

abbrev pub DidJoin : LaneState → LaneState → Owner → ℕ → Type 0
DidJoin c e o at = (x : JoinsRows (part_of c o.distributor) (part_of e o.distributor) at) × Decides c e o (RowsJoined (x.joined).bucket)

abbrev pub DidActivate : LaneState → LaneState → Owner → ℕ → ℕ → Type 0
DidActivate c e o at node = (x : ActivatesAt (part_of c o.distributor) (part_of e o.distributor) at node) × Decides c e o (ActiveOn (x.row).bucket node)

-- that the active node accepted is no decision
pub record DidAccept (c e : LaneState) (o : Owner) (at : ℕ) : Type 0 where
  pub accepts : AcceptsAt (part_of c o.distributor) (part_of e o.distributor) at
  pub nothing : DecidesNothing c e o

abbrev pub DidBeginDelete : LaneState → LaneState → Owner → ℕ → ℕ → ℕ → Type 0
DidBeginDelete c e o at node serial = (x : BeginsDelete (part_of c o.distributor) (part_of e o.distributor) at node serial) × Decides c e o (DeleteFrom (x.row).bucket node serial)

pub record DidEndDelete (c e : LaneState) (o : Owner) (bucket : Low) (node : ℕ) : Type 0 where
  pub ends : EndsDelete (part_of c o.distributor) (part_of e o.distributor) bucket node
  pub decides : Decides c e o (DeleteOver bucket node)

-- ---- a Delete that is over

-- a row of the owner has a Delete of the bucket to the node, and it is over
abbrev pub HasEnded : LaneState → Owner → Low → ℕ → Type 0
HasEnded c o bucket node = (delete : Deleting) × (delete.bucket ≡ bucket) × (delete.node ≡ node)
    × ((at : ℕ) × (row : Row) × HasRow c o at row × (row.deleting ≡ Some delete)) × IsDeleteOver (history (journal_of c)) o.state delete
