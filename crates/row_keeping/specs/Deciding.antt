-- What is known where the owner decides on a row in a pass.
use Rattle.std.specs.Prelude.{◌≡◌, ◌≢◌, ◌≤◌, ℕ, true, false, List, Some, None, slice_get}
use Rattle.bucket_ids.specs.Buckets.{Low}
use Rattle.node_sets.specs.Members.{has_node, size_of}
use Rattle.cluster_states.specs.declared.cluster_state.ClusterState.{ClusterState}
use Rattle.bucket_db.specs.Rows.{Rows}
use Rattle.bucket_db.specs.declared.row.Row.{Row}
use Rattle.bucket_db.specs.declared.row.Deleting.{Deleting}
use Rattle.distributor_part.specs.declared.rules.Rules.{Rules}
use Rattle.distributor_part.specs.Parts.{Part}
use Rattle.distributor_part.specs.Targets.{AreTargets, IsToBeActive}
use Rattle.lane_journals.specs.Events as plain
use Rattle.lane_journals.specs.Readers.{Journal, Message, Given, sent, first_reply, returned, answer, round_of, running}
use Rattle.lane_journals.specs.Facts.{AnsweredApply, AnsweredReady, Idle}
use Rattle.lane_journals.specs.Legal.{is_ending}
use Rattle.lane_journals.specs.Meanings.{history}
use Rattle.lane_journals.specs.declared.event.LaneEvent.{LaneEvent}
use Rattle.lane_keeping.specs.Acting.{IsActing}
use Rattle.lane_keeping.specs.Asking.{OthersStay}

-- the owner acts, nothing is under way in any row, and of the parts just its own becomes another
pub record IsDeciding (lane : Low) (rules : Rules) (J : List LaneEvent) (parts now : List Part) (d : ℕ) (s : ClusterState) : Type 0 where
  pub acting : IsActing lane J d s
  pub others : OthersStay lane rules parts now d
  pub no_round : (b : Low) → running s.version b (history J) ≡ false
  pub idle : (b : Low) → Idle s.version b (history J)

-- the row has no active node yet, and the one that is to be active answered a Ready
pub record MayActivate (J : Journal) (s : ClusterState) (row : Row) (node : ℕ) : Type 0 where
  pub undecided : row.active ≡ None
  pub to_be_active : IsToBeActive s row.bucket row.complete row.active node
  pub ready : AnsweredReady s.version node row.bucket J

-- a complete member of the row that isn't the node, and answered the union of the row's last round
pub record IsKeeper (J : Journal) (s : ClusterState) (row : Row) (node keeper : ℕ) : Type 0 where
  pub other : keeper ≢ node
  pub complete : has_node row.complete keeper ≡ true
  pub answered : AnsweredApply s.version (round_of s.version row.bucket J) keeper row.bucket J

-- the row has no unanswered Delete, the node is none of its targets and showed just the row's bucket with this serial
-- in the row's last round, and as many others keep its copy as a write needs
pub record MayDelete (rules : Rules) (J : Journal) (s : ClusterState) (row : Row) (node serial : ℕ) : Type 0 where
  pub none : row.deleting ≡ None
  pub targets : ℕ
  pub are_targets : AreTargets rules.redundancy s row.bucket row.active targets
  pub no_target : has_node targets node ≡ false
  pub given : Given
  pub shown : answer s.version (round_of s.version row.bucket J) node J ≡ Some given
  pub exact : given.names row.bucket serial ≡ true
  pub keepers : ℕ
  pub enough : rules.acks ≤ size_of keepers
  pub are_keepers : (n : ℕ) → has_node keepers n ≡ true → IsKeeper J s row node n

-- a row has this Delete
pub record HasDelete (rows : Rows) (delete : Deleting) : Type 0 where
  pub at : ℕ
  pub row : Row
  pub found : slice_get rows.rows at ≡ Some row
  pub deleting : row.deleting ≡ Some delete

-- a message with the Delete came back with a reply after which its node accepts it no more
pub record IsDeleteOver (J : Journal) (s : ClusterState) (delete : Deleting) : Type 0 where
  pub number : ℕ
  pub message : Message
  pub was_sent : sent number J ≡ Some message
  pub version : message.version ≡ s.version
  pub receiver : message.receiver ≡ delete.node
  pub body : message.body ≡ plain.Delete delete.bucket delete.serial
  pub reply : plain.Reply
  pub replied : first_reply number J ≡ Some reply
  pub ending : is_ending reply ≡ true
  pub back : returned number J ≡ true
