-- What a lane keeps: a legal journal, and nodes and distributors' parts that are what the journal says. Each part is
-- a record over what readers read, so that an event which the readers pass over leaves it as it is.
use Rattle.std.specs.Prelude.{◌≡◌, ◌≤◌, ℕ, Bool, true, false, List, [], ◌∷◌, Option, None, Some, is_some, Contains, slice_index_or, if◌then◌else◌}
use Rattle.bucket_ids.specs.Buckets.{Low, IsBucket}
use Rattle.node_sets.specs.Members.{has_node}
use Rattle.cluster_states.specs.declared.cluster_state.ClusterState.{ClusterState}
use Rattle.cluster_states.specs.Publishing.{serves}
use Rattle.ideal_nodes.specs.Placement.{IsOwner}
use Rattle.bucket_db.specs.declared.row.Row.{Row}
use Rattle.bucket_db.specs.declared.row.Deleting.{Deleting}
use Rattle.bucket_db.specs.Rows.{buckets_of}
use Rattle.distributor_part.specs.declared.rules.Rules.{Rules}
use Rattle.distributor_part.specs.Parts.{Part, new_part, rows_of}
use Rattle.node_model.specs.Nodes.{Node, new_node}
use Rattle.lane_journals.specs.Buckets.{contains}
use Rattle.lane_journals.specs.Readers as readers
use Rattle.lane_journals.specs.Readers.{Message, Given, Beginning, sent, published, held, asked, opened}
use Rattle.lane_journals.specs.Legal.{Parted}
use Rattle.lane_journals.specs.RowLists as listed
use Rattle.lane_journals.specs.RowLists.{row_with, rows}
use Rattle.lane_journals.specs.Meanings.{history}
use Rattle.lane_journals.specs.Places.{Setting, state_in}
use Rattle.lane_journals.specs.KeptJournals.{IsLegal}
use Rattle.lane_journals.specs.declared.event.LaneEvent.{LaneEvent}
use Rattle.lane_keeping.specs.NodeKeeping.{NodeKeeps}

-- what a lane's bucket and its rules set up
abbrev pub setting_of : Low → Rules → Setting
setting_of lane rules = record { lane = lane; acks = rules.acks; redundancy = rules.redundancy }

-- ---- numbers and states

-- no message that was sent has a greater number
abbrev pub AreNumbered : (ℕ → Option Message) → ℕ → Type 0
AreNumbered message_at last = (k : ℕ) (m : Message) → message_at k ≡ Some m → k ≤ last

-- the state is the one that was published last, if any was
abbrev pub IsNewest : (ℕ → Option ClusterState) → (ℕ → Bool) → Option ClusterState → Type 0
IsNewest state_at was None = (v : ℕ) → was v ≡ false
IsNewest state_at was (Some s) = (state_at s.version ≡ Some s) × ((v : ℕ) → was v ≡ true → v ≤ s.version)

-- ---- nodes

-- the node of a number; one that isn't there yet took no message
abbrev pub node_in : List Node → ℕ → Node
node_in nodes n = slice_index_or nodes n new_node

abbrev pub NodesKeep : List LaneEvent → List Node → Type 0
NodesKeep J nodes = (n : ℕ) → NodeKeeps J n (node_in nodes n)

-- ---- rows

-- the row with the key
abbrev pub row_by : ℕ → List Row → Option Row
row_by key [] = None
row_by key (r ∷ rs) = if contains r.bucket key then Some r else row_by key rs

abbrev pub IsDelete : Option Deleting → Option readers.Deleting → Type 0
IsDelete None None = Unit {0}
IsDelete (Some d) (Some e) = (d.bucket ≡ e.bucket) × (d.node ≡ e.node) × (d.serial ≡ e.serial)
IsDelete _ _ = ⊥

-- a row is what the journal says of it
pub record IsRow (r : Row) (s : listed.Row) : Type 0 where
  pub bucket_is : r.bucket ≡ s.bucket
  pub complete_is : (n : ℕ) → has_node r.complete n ≡ s.members n
  pub active_is : r.active ≡ s.active
  pub delete_is : IsDelete r.deleting s.deleting

abbrev pub IsRowOf : Option Row → Option listed.Row → Type 0
IsRowOf None None = Unit {0}
IsRowOf (Some r) (Some s) = IsRow r s
IsRowOf _ _ = ⊥

-- ---- one distributor's part

-- an answer to an Ask names the bucket
pub record IsNamed (answers : ℕ → Option Given) (b : Low) : Type 0 where
  pub node : ℕ
  pub given : Given
  pub answer : answers node ≡ Some given
  pub serial : ℕ
  pub names : given.names b serial ≡ true

-- the buckets that were shown are just those that answers name
pub record AreShown (answers : ℕ → Option Given) (shown : List Low) : Type 0 where
  pub valid : (b : Low) → Contains shown b → IsBucket b
  pub named : (b : Low) → Contains shown b → IsNamed answers b
  pub all : (b : Low) → IsNamed answers b → Contains shown b

-- what the owner knows of the opening of a state: who answered an Ask and what was shown, and then the rows, no
-- two of which have a common key
pub record KnowsOpening (answers : ℕ → Option Given) (is_open : Bool) (row_at : ℕ → Option listed.Row) (s : ClusterState) (p : Part) : Type 0 where
  pub answered_are : (n : ℕ) → has_node p.answered n ≡ is_some (answers n)
  pub serving : (n : ℕ) → has_node p.answered n ≡ true → serves s n ≡ true
  pub shown_are : p.rows ≡ None → AreShown answers p.shown
  pub opened_as : is_open ≡ is_some p.rows
  pub rows_are : (key : ℕ) → IsRowOf (row_by key (rows_of p.rows)) (row_at key)
  pub parted : Parted (buckets_of (rows_of p.rows))

-- the distributor holds the state that its part heard; where it owns the lane under it, it knows its opening
abbrev pub Holds : Low → ℕ → Option ℕ → (ℕ → Option ClusterState) → (ℕ → ℕ → Option Given) → (ℕ → Bool) → (ℕ → ℕ → Option listed.Row) → Option ClusterState → Part → Type 0
Holds lane d holds state_at answers is_open row_at None p = holds ≡ None
Holds lane d holds state_at answers is_open row_at (Some s) p =
    (holds ≡ Some s.version) × (state_at s.version ≡ Some s) × (IsOwner lane s d → KnowsOpening (answers s.version) (is_open s.version) (row_at s.version) s p)

pub record IsPartOf (lane : Low) (rules : Rules) (d : ℕ) (holds : Option ℕ) (state_at : ℕ → Option ClusterState) (answers : ℕ → ℕ → Option Given) (is_open : ℕ → Bool) (row_at : ℕ → ℕ → Option listed.Row) (p : Part) : Type 0 where
  pub number_is : p.number ≡ d
  pub lane_is : p.lane ≡ lane
  pub rules_are : p.rules ≡ rules
  pub heard : Holds lane d holds state_at answers is_open row_at p.state p

-- the part is what the journal says of the distributor with this number
abbrev pub PartKeeps : Low → Rules → List LaneEvent → ℕ → Part → Type 0
PartKeeps lane rules J d p = IsPartOf lane rules d (held d (history J)) (λ v. state_in v J) (λ v n. asked v n (history J)) (λ v. opened v (history J)) (λ v key. row_with key (rows v (history J))) p

-- the part of a distributor; one that isn't there yet heard nothing
abbrev pub part_in : Low → Rules → List Part → ℕ → Part
part_in lane rules parts d = slice_index_or parts d (new_part d lane rules None)

abbrev pub PartsKeep : Low → Rules → List LaneEvent → List Part → Type 0
PartsKeep lane rules J parts = (d : ℕ) → PartKeeps lane rules J d (part_in lane rules parts d)

-- ---- the lane

-- each operation that the distributor began is closed
abbrev pub IsIdle : ℕ → (ℕ → Option Beginning) → (ℕ → Bool) → Type 0
IsIdle d begun is_closed = (line : ℕ) (begin : Beginning) → begun line ≡ Some begin → begin.distributor ≡ d → is_closed line ≡ true

pub record Keeps (lane : Low) (rules : Rules) (J : List LaneEvent) (newest : Option ClusterState) (last : ℕ) (nodes : List Node) (parts : List Part) : Type 0 where
  pub legal : IsLegal (setting_of lane rules) J
  pub newest_is : IsNewest (λ v. state_in v J) (λ v. published v (history J)) newest
  pub numbered : AreNumbered (λ k. sent k (history J)) last
  pub nodes_are : NodesKeep J nodes
  pub parts_are : PartsKeep lane rules J parts
