-- What an owner says of its rows to the nodes.
use Rattle.std.specs.Prelude.{◌≡◌, ℕ, true, List, Some, slice_get}
use Rattle.cluster_states.specs.declared.cluster_state.ClusterState.{ClusterState}
use Rattle.cluster_states.specs.Publishing.{serves}
use Rattle.bucket_ids.specs.Buckets.{Low}
use Rattle.bucket_db.specs.Rows.{Rows}
use Rattle.bucket_db.specs.declared.row.Row.{Row}
use Rattle.messages.specs.declared.message.Message.{Message}
use Rattle.messages.specs.declared.body.Body.{Body}
use Rattle.messages.specs.declared.body.Body.TheVariants.{Delete, Split, Join, Ready, Activate}
use Rattle.distributor_part.specs.Parts.{Part}
use Rattle.lane_journals.specs.declared.event.LaneEvent.{LaneEvent}
use Rattle.lane_keeping.specs.Acting.{IsActing}
use Rattle.lane_keeping.specs.Flights.{NamesBucket}

-- what is said of a row: to any node how it lies and whether its piece is ready, to its active node that it is,
-- and its unanswered Delete to the node of that
abbrev pub IsOfRow : Row → ℕ → Body → Type 0
IsOfRow row node (Split bucket) = bucket ≡ row.bucket
IsOfRow row node (Join bucket) = bucket ≡ row.bucket
IsOfRow row node (Ready bucket) = bucket ≡ row.bucket
IsOfRow row node (Activate bucket) = (bucket ≡ row.bucket) × (row.active ≡ Some node)
IsOfRow row node (Delete bucket serial) = row.deleting ≡ Some (record { bucket = bucket; node = node; serial = serial })
IsOfRow row node _ = ⊥

-- the owner says something of a row of its part to a serving node
pub record IsTelling (lane : Low) (J : List LaneEvent) (d : ℕ) (s : ClusterState) (p : Part) (m : Message) : Type 0 where
  pub acting : IsActing lane J d s
  pub rows : Rows
  pub opened : p.rows ≡ Some rows
  pub at : ℕ
  pub row : Row
  pub found : slice_get rows.rows at ≡ Some row
  pub version_is : m.version ≡ s.version
  pub sender_is : m.sender ≡ d
  pub serving : serves s m.receiver ≡ true
  pub valid : NamesBucket m.body
  pub of_row : IsOfRow row m.receiver m.body
