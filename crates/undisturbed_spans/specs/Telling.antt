-- What a message of a quiet span makes of a lane's nodes.
use Rattle.std.specs.Prelude.{◌≡◌, ◌≢◌, ◌⊎◌, ◌++◌, ◌+◌, ℕ, Bool, true, List, [], ◌∷◌, length, filter, Some, None, if◌then◌else◌}
use Rattle.std.specs.List.{list_any}
use Rattle.std.specs.FinMap as fin
use Rattle.bucket_ids.specs.Buckets.{Low, has_key}
use Rattle.carriers.specs.declared.fate.Fate.{Fate}
use Rattle.entry_maps.specs.EntryCodes.{Entries}
use Rattle.pieces.specs.Pieces.{does_meet, is_piece}
use Rattle.messages.specs.declared.body.Body.TheVariants as body
use Rattle.messages.specs.declared.message.Message.{Message}
use Rattle.messages.specs.declared.reply.Reply.{Reply}
use Rattle.messages.specs.Noting.{noted_reply}
use Rattle.node_model.specs.Nodes as lane
use Rattle.lane_journals.specs.Buckets.{Bucket, Id, key_of}
use Rattle.lane_journals.specs.Events as plain
use Rattle.lane_journals.specs.Events.{Content}
use Rattle.lane_journals.specs.Readers.{sent, first_reply, version, stopped}
use Rattle.lane_journals.specs.Meanings.{history, entry_at, meaning_reply}
use Rattle.lane_journals.specs.declared.event.LaneEvent.{LaneEvent}
use Rattle.lane_keeping.specs.NodeKeeping.{stamp_of}
use Rattle.lane_keeping.specs.Flights.{Brings}
use Rattle.lane_keeping.specs.Replaying.{sending}
use Rattle.lane_carriage.specs.Carriage.{met, IsDealt, AreDelivered, due, IsCarried}
use Rattle.lane_keeping.specs.Spans.{NodesGo}
use Rattle.pass_model.specs.Nodes.{Node}
use Rattle.pass_model.specs.Lanes.{seen_node, IsPassBody, is_taken, is_answer}
use Rattle.pass_model.specs.Scripts.{Script, came, takings, Agrees, told_node}
use Rattle.upkeep_spans.specs.Causes.{IsUndisturbed}
use Rattle.undisturbed_spans.specs.Undisturbed.{GoesUndisturbed, IsTakenOnce, IsTakenTwice}

-- the nodes of a lane as nodes of a pass
abbrev pub seen_nodes : Script → List LaneEvent → (ℕ → lane.Node) → ℕ → Node
seen_nodes d J nodes n = seen_node (d n) (came n (history J)) (nodes n)

-- a message of a pass with a number that is new, to a node that knows its version
pub record IsNew (J : List LaneEvent) (k : ℕ) (m : Message) : Type 0 where
  pub unsent : sent k (history J) ≡ None
  pub silent : first_reply k (history J) ≡ None
  pub untaken : takings k (history J) ≡ 0
  pub of_pass : IsPassBody m.body
  pub brings : Brings (λ t. entry_at t J) m.body
  pub current : version m.receiver (history J) ≡ m.version

-- it is sent, and taken once or twice; the nodes go through that, and its first reply isn't want of memory
pub record IsTaken (J K : List LaneEvent) (old now : ℕ → lane.Node) (k : ℕ) (m : Message) : Type 0 where
  pub new : IsNew J k m
  pub takings : IsTakenOnce k (sending k m ∷ J) K ⊎ IsTakenTwice k (sending k m ∷ J) K
  pub nodes : NodesGo J old K now
  pub fine : first_reply k (history K) ≡ Some plain.NoMemory → ⊥

-- the nodes are what a pass makes of them, and the first reply is an answer just where the node takes it
pub record IsToldIn (d : Script) (J K : List LaneEvent) (old now : ℕ → lane.Node) (k : ℕ) (m : Message) : Type 0 where
  pub nodes : (n : ℕ) → seen_nodes d K now n ≡ told_node m.receiver m.body (seen_nodes d J old) n
  pub others : (n : ℕ) → n ≢ m.receiver → now n ≡ old n
  pub versions : (n : ℕ) → version n (history K) ≡ version n (history J)
  pub reply : Reply
  pub before : List LaneEvent
  pub replied : first_reply k (history K) ≡ Some (meaning_reply before (noted_reply reply))
  pub answers : is_answer reply ≡ is_taken m.body (seen_nodes d J old m.receiver)

-- ---- a message of a lane

-- such a message is sent with the next number and dealt with by its fate in a span that is quiet, and the nodes go
-- through it
pub record IsSaid (d : Script) (given : List Fate) (fate : Fate) (J K : List LaneEvent) (old now : ℕ → lane.Node) (m : Message) : Type 0 where
  pub carried : IsCarried given J
  pub of_pass : IsPassBody m.body
  pub brings : Brings (λ t. entry_at t J) m.body
  pub current : version m.receiver (history J) ≡ m.version
  -- the journal once it was dealt with
  pub between : List LaneEvent
  pub dealt : IsDealt (met (stopped m.receiver (history J)) fate) (length given + 1) (sending (length given + 1) m ∷ J) between
  pub late : AreDelivered (due (given ++ fate ∷ []) (length given + 1)) between K
  pub nodes : NodesGo J old K now
  pub quiet : GoesUndisturbed d (given ++ fate ∷ []) J K

-- it has a number that was new, and was taken once or twice
pub record IsFresh (J K : List LaneEvent) (k : ℕ) (m : Message) : Type 0 where
  pub unsent : sent k (history J) ≡ None
  pub silent : first_reply k (history J) ≡ None
  pub takings : IsTakenOnce k (sending k m ∷ J) K ⊎ IsTakenTwice k (sending k m ∷ J) K

-- ---- a Read of a bucket

-- it is sent with the next number, to a node that knows its version, and dealt with by its fate in a span that is quiet
pub record IsAskedOf (given : List Fate) (fate : Fate) (J K : List LaneEvent) (old now : ℕ → lane.Node) (m : Message) (b : Low) : Type 0 where
  pub carried : IsCarried given J
  pub body_is : m.body ≡ body.Read b None
  pub current : version m.receiver (history J) ≡ m.version
  pub between : List LaneEvent
  pub dealt : IsDealt (met (stopped m.receiver (history J)) fate) (length given + 1) (sending (length given + 1) m ∷ J) between
  pub late : AreDelivered (due (given ++ fate ∷ []) (length given + 1)) between K
  pub nodes : NodesGo J old K now
  pub quiet : IsUndisturbed (given ++ fate ∷ []) J K

-- what is held in a bucket
abbrev pub held_in : Low → Entries → Content
held_in b m id = if has_key b (key_of id) then stamp_of (fin.get m id) else None

-- no node changes, and the first reply shows what the node has in the bucket, and which of its pieces meet it
pub record IsShownIn (J K : List LaneEvent) (old now : ℕ → lane.Node) (k : ℕ) (m : Message) (b : Low) : Type 0 where
  pub nodes : (n : ℕ) → now n ≡ old n
  pub came_as : (n : ℕ) → came n (history K) ≡ came n (history J)
  pub versions : (n : ℕ) → version n (history K) ≡ version n (history J)
  pub content : Content
  pub named : Bucket → ℕ → Bool
  pub replied : first_reply k (history K) ≡ Some (plain.Answer content named)
  pub held : (id : Id) → content id ≡ held_in b (old m.receiver).entries id
  pub names : (c : Bucket) (s : ℕ) → named c s ≡ list_any (is_piece c s) (filter (does_meet b) (old m.receiver).pieces)
