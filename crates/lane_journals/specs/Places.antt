-- What the cluster states say of places: who owns the lane, which nodes are the targets of a row and in which
-- order they come, into which rows an opening parts the lane.
use Rattle.std.specs.Prelude.{◌≡◌, ◌≢◌, ◌==◌, ◌⊎◌, ◌↔◌, ◌≤◌, ℕ, true, List, [], ◌∷◌, ◌++◌, Option, Some, None, take, is_some, Contains, if◌then◌else◌}
use Rattle.bucket_ids.specs.Buckets.{IsBucket, parent_of}
use Rattle.node_sets.specs.Members.{has_node}
use Rattle.cluster_states.specs.declared.cluster_state.ClusterState.{ClusterState}
use Rattle.cluster_states.specs.Publishing.{Told, distributor_fault, up_fault}
use Rattle.ideal_nodes.specs.Scores.{Has}
use Rattle.ideal_nodes.specs.Placement.{Precedes, IsIdeal, IsOwner}
use Rattle.lane_journals.specs.Buckets.{Bucket, contains, same_bucket, covers, first_child, second_child, key_of}
use Rattle.lane_journals.specs.Readers.{Journal, or_else, only_if, row_in, active, Given, asked}
use Rattle.lane_journals.specs.Facts.{AnsweredReady, IsRow, IsMember}
use Rattle.lane_journals.specs.States.{state_of}
use Rattle.lane_journals.specs.Meanings.{history}
use Rattle.messages.specs.declared.outcome.Outcome.{Outcome}
use Rattle.messages.specs.declared.outcome.Outcome.TheVariants.{OwnedElsewhere}
use Rattle.messages.specs.declared.noted.NotedBody.{NotedBody}
use Rattle.messages.specs.declared.noted.NotedBody.TheVariants.{Apply, Split, Join, Ready}
use Rattle.messages.specs.declared.decision.Decision.{Decision}
use Rattle.messages.specs.declared.decision.Decision.TheVariants.{RoundBegun, RowsJoined, ActiveOn, DeleteFrom}
use Rattle.lane_journals.specs.declared.event.LaneEvent.{LaneEvent}
use Rattle.lane_journals.specs.declared.event.LaneEvent.TheVariants.{Published, Begun, Refused, Opened, Sent, Decided}

-- what a lane is set up with
pub record Setting : Type 0 where
  -- the lane's bucket
  pub lane : Bucket
  -- how many copies a write needs before it is acknowledged
  pub acks : ℕ
  -- how many copies there are to be
  pub redundancy : ℕ

-- the state that was published with a version
abbrev pub state_in : ℕ → List LaneEvent → Option ClusterState
state_in v [] = None
state_in v (Published s ∷ J) = or_else (state_in v J) (only_if (s.version == v) s)
state_in v (_ ∷ J) = state_in v J

-- all states that were published, oldest first
abbrev pub published_states : List LaneEvent → List ClusterState
published_states [] = []
published_states (Published s ∷ J) = published_states J ++ s ∷ []
published_states (_ ∷ J) = published_states J

-- what the refusals of a publication go by
abbrev pub told : Setting → List LaneEvent → Told
told S J = record { acks = S.acks; states = published_states J }

-- the distributor owns the lane under the version
pub record Owns (S : Setting) (J : List LaneEvent) (d v : ℕ) : Type 0 where
  pub state : ClusterState
  pub published : state_in v J ≡ Some state
  pub owner : IsOwner S.lane state d

-- the node is among the first of the bucket's ideal order, as many as there are to be copies
pub record IsAmongFirst (S : Setting) (J : List LaneEvent) (v : ℕ) (b : Bucket) (n : ℕ) : Type 0 where
  pub state : ClusterState
  pub published : state_in v J ≡ Some state
  pub ideal : List ℕ
  pub is_ideal : IsIdeal b state ideal
  pub among : Has n (take S.redundancy ideal)

abbrev pub IsActive : ℕ → Bucket → ℕ → Journal → Type 0
IsActive v b n J = (key : ℕ) → contains b key ≡ true → active v key J ≡ Some n

-- a target of the row: one of the first nodes, or the active one
abbrev pub IsTarget : Setting → List LaneEvent → ℕ → Bucket → ℕ → Type 0
IsTarget S J v b n = IsAmongFirst S J v b n ⊎ IsActive v b n (history J)

-- the first complete member in ideal order
pub record IsFirstMember (S : Setting) (J : List LaneEvent) (v : ℕ) (b : Bucket) (n : ℕ) : Type 0 where
  pub state : ClusterState
  pub published : state_in v J ≡ Some state
  pub ideal : List ℕ
  pub is_ideal : IsIdeal b state ideal
  pub listed : Has n ideal
  pub first : (m : ℕ) → Has m ideal → IsMember v m b (history J) → (m ≡ n) ⊎ Precedes b state n m

-- the receivers of the bucket's newest round
abbrev pub receivers_of : ℕ → Bucket → List LaneEvent → Option ℕ
receivers_of v b [] = None
receivers_of v b (Decided d w (RoundBegun c set) ∷ J) = if w == v then (if same_bucket c b then Some set else receivers_of v b J) else receivers_of v b J
receivers_of v b (_ ∷ J) = receivers_of v b J

-- a row, a child of a row or the parent of two rows
abbrev pub NamesRow : ℕ → Bucket → Journal → Type 0
NamesRow v b J = IsRow v b J ⊎ (((p : Bucket) × IsRow v p J × ((b ≡ first_child p) ⊎ (b ≡ second_child p))) ⊎ (IsRow v (first_child b) J × IsRow v (second_child b) J))

-- a node of the version named the bucket in its answer to an Ask
pub record WasNamed (v : ℕ) (c : Bucket) (J : Journal) : Type 0 where
  pub node : ℕ
  pub serves : state_of J v node ≡ true
  pub given : Given
  pub answer : asked v node J ≡ Some given
  pub serial : ℕ
  pub names : given.names c serial ≡ true

-- the coarsest partition of the lane into buckets such that no bucket named in an answer lies strictly inside one
pub record IsPartition (S : Setting) (J : Journal) (v : ℕ) (rows : List Bucket) : Type 0 where
  pub valid : (b : Bucket) → Contains rows b → IsBucket b
  pub parts : (key : ℕ) → is_some (row_in key rows) ≡ contains S.lane key
  pub whole : (b c : Bucket) → Contains rows b → WasNamed v c J → covers b c ≡ true → c ≡ b
  pub coarsest : (b : Bucket) → Contains rows b → (b ≡ S.lane) ⊎ ((c : Bucket) × WasNamed v c J × (covers (parent_of b) c ≡ true) × (c ≢ parent_of b))

abbrev pub PlacedBody : Setting → List LaneEvent → ℕ → ℕ → NotedBody → Type 0
PlacedBody S J v n (Apply b ss) = (set : ℕ) × (receivers_of v b J ≡ Some set) × (has_node set n ≡ true)
PlacedBody S J v n (Split b) = NamesRow v b (history J)
PlacedBody S J v n (Join b) = NamesRow v b (history J)
PlacedBody S J v n (Ready b) = NamesRow v b (history J)
PlacedBody S J v n _ = Unit {0}

abbrev pub PlacedDecision : Setting → List LaneEvent → ℕ → Decision → Type 0
PlacedDecision S J v (RoundBegun b set) = (n : ℕ) → (has_node set n ≡ true) ↔ IsTarget S J v b n
PlacedDecision S J v (RowsJoined p) = (S.lane).bits ≤ p.bits
PlacedDecision S J v (ActiveOn b n) = AnsweredReady v n b (history J) × IsFirstMember S J v b n
PlacedDecision S J v (DeleteFrom b n s) = IsTarget S J v b n → ⊥
PlacedDecision S J v _ = Unit {0}

-- a line is refused where another distributor owns the lane
abbrev pub IsElsewhere : Setting → List LaneEvent → ℕ → Outcome → Type 0
IsElsewhere S J d (OwnedElsewhere owner v) = Owns S J owner v × (owner ≢ d)
IsElsewhere S J d _ = ⊥

-- the event is where the states say that it should be
abbrev pub Placed : Setting → List LaneEvent → LaneEvent → Type 0
Placed S J (Published state) = (distributor_fault state ≡ None) × (up_fault S.acks state ≡ None)
Placed S J (Begun line d v id s) = Owns S J d v × (contains S.lane (key_of id) ≡ true)
Placed S J (Refused line d outcome) = IsElsewhere S J d outcome
Placed S J (Opened d v rows) = Owns S J d v × IsPartition S (history J) v rows
Placed S J (Sent k v d n b) = Owns S J d v × PlacedBody S J v n b
Placed S J (Decided d v x) = Owns S J d v × PlacedDecision S J v x
Placed S J _ = Unit {0}
