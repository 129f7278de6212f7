-- The life of a lane: a legal journal in which a document is written under two states, and a node is emptied.
use Rattle.std.specs.Prelude.{◌≡◌, true, false, List, [], ◌∷◌, None, Some}
use Rattle.cluster_states.specs.declared.marks.Mark.TheVariants.{Up, Retired}
use Rattle.cluster_states.specs.declared.cluster_state.ClusterState.{ClusterState}
use Rattle.lane_journals.specs.Stamps.{Stamp}
use Rattle.lane_journals.specs.Buckets.{Bucket, Id, contains, key_of}
use Rattle.lane_journals.specs.Places.{Setting}
use Rattle.messages.specs.declared.noted.NotedBody.TheVariants as body
use Rattle.messages.specs.declared.noted.NotedReply.TheVariants as reply
use Rattle.messages.specs.declared.decision.Decision.TheVariants as choice
use Rattle.messages.specs.declared.outcome.Outcome.TheVariants as outcome
use Rattle.lane_journals.specs.declared.event.LaneEvent.{LaneEvent}
use Rattle.lane_journals.specs.declared.event.LaneEvent.TheVariants as event

abbrev pub lane : Bucket
lane = record { bits = 1; low = 0 }

-- a fact of all documents of the lane
abbrev pub OfDocuments : (Id → Type 0) → Type 0
OfDocuments L = (id : Id) → contains lane (key_of id) ≡ true → L id

abbrev pub setting : Setting
setting = record { lane = lane; acks = 1; redundancy = 2 }

-- two nodes are up
abbrev pub state_one : ClusterState
state_one = record { version = 1; distributors = Up ∷ []; nodes = Up ∷ Up ∷ []; groups = 1 }

-- node 1 is retired
abbrev pub state_two : ClusterState
state_two = record { version = 2; distributors = Up ∷ []; nodes = Up ∷ Retired ∷ []; groups = 1 }

abbrev pub stamp_one : Stamp
stamp_one = record { version = 1; count = 1 }

abbrev pub stamp_two : Stamp
stamp_two = record { version = 1; count = 2 }

abbrev pub stamp_three : Stamp
stamp_three = record { version = 2; count = 1 }

-- ---- the journal, newest first; a set of nodes is the number of its bits: 3 has the nodes 0 and 1, 1 has node 0

-- the first state is published, and node 0 has answered the owner's Ask
abbrev pub asked_one : List LaneEvent
asked_one =
    event.Returned 1 ∷
    event.Delivered 1 (reply.Answer [] []) ∷
    event.Sent 1 1 0 0 body.Ask ∷
    event.Heard 0 1 ∷
    -- two nodes, both up; a write needs one copy of two
    event.Published state_one ∷
    []

-- so has node 1
abbrev pub asked_both : List LaneEvent
asked_both =
    event.Returned 2 ∷
    event.Delivered 2 (reply.Answer [] []) ∷
    event.Sent 2 1 0 1 body.Ask ∷
    asked_one

-- the version is opened: all its nodes have answered
abbrev pub opened_one : List LaneEvent
opened_one =
    event.Opened 0 1 (lane ∷ []) ∷
    asked_both

-- a round has read both nodes
abbrev pub read_one : List LaneEvent
read_one =
    event.Returned 4 ∷
    event.Delivered 4 (reply.Answer [] []) ∷
    event.Sent 4 1 0 1 (body.Read lane None) ∷
    event.Returned 3 ∷
    event.Delivered 3 (reply.Answer [] []) ∷
    event.Sent 3 1 0 0 (body.Read lane None) ∷
    event.Decided 0 1 (choice.RoundBegun lane 3) ∷
    opened_one

-- and makes both complete
abbrev pub united_one : List LaneEvent
united_one =
    event.Decided 0 1 (choice.RoundEnded lane 3) ∷
    event.Returned 6 ∷
    event.Delivered 6 (reply.Answer [] []) ∷
    event.Sent 6 1 0 1 (body.Apply lane []) ∷
    event.Returned 5 ∷
    event.Delivered 5 (reply.Answer [] []) ∷
    event.Sent 5 1 0 0 (body.Apply lane []) ∷
    read_one

-- a write that no node answers, one that both nodes answer, a split and a join
abbrev pub life_one : Id → List LaneEvent
life_one id =
    event.Delivered 12 (reply.Answer [] []) ∷
    event.Sent 12 1 0 1 (body.Join lane) ∷
    event.Decided 0 1 (choice.RowsJoined lane) ∷
    event.Delivered 11 (reply.Answer [] []) ∷
    event.Sent 11 1 0 1 (body.Split (record { bits = 2; low = 0 })) ∷
    event.Decided 0 1 (choice.RowSplit lane) ∷
    event.Closed 2 (outcome.Acked stamp_two) ∷
    event.Returned 10 ∷
    event.Delivered 10 (reply.Answer [] []) ∷
    event.Sent 10 1 0 1 (body.Store stamp_two) ∷
    event.Returned 9 ∷
    event.Delivered 9 (reply.Answer [] []) ∷
    event.Sent 9 1 0 0 (body.Store stamp_two) ∷
    event.Wrote 2 (record { stamp = stamp_two; id = id; body = None }) ∷
    event.Prepared 2 lane 3 ∷
    event.Begun 2 0 1 id (Some stamp_two) ∷
    -- no node answered the Store
    event.Closed 1 (outcome.TooFew 0 1 0) ∷
    -- this one comes late
    event.Sent 8 1 0 1 (body.Store stamp_one) ∷
    -- this one is lost
    event.Sent 7 1 0 0 (body.Store stamp_one) ∷
    event.Wrote 1 (record { stamp = stamp_one; id = id; body = None }) ∷
    event.Prepared 1 lane 3 ∷
    event.Begun 1 0 1 id (Some stamp_one) ∷
    united_one

-- under the second state what is found goes to node 0, which becomes active
abbrev pub activated : Id → List LaneEvent
activated id =
    event.Decided 0 2 (choice.ActiveOn lane 0) ∷
    event.Returned 18 ∷
    event.Delivered 18 (reply.Answer [] []) ∷
    event.Sent 18 2 0 0 (body.Ready lane) ∷
    event.Decided 0 2 (choice.RoundEnded lane 1) ∷
    event.Returned 17 ∷
    event.Delivered 17 (reply.Answer [] []) ∷
    event.Sent 17 2 0 0 (body.Apply lane (stamp_two ∷ [])) ∷
    event.Returned 16 ∷
    event.Delivered 16 (reply.Answer (record { bucket = lane; serial = 4; ready = false } ∷ []) (stamp_two ∷ [])) ∷
    event.Sent 16 2 0 1 (body.Read lane None) ∷
    event.Returned 15 ∷
    event.Delivered 15 (reply.Answer (record { bucket = lane; serial = 2; ready = false } ∷ []) (stamp_two ∷ [])) ∷
    event.Sent 15 2 0 0 (body.Read lane None) ∷
    event.Decided 0 2 (choice.RoundBegun lane 1) ∷
    -- the late Store of the first state changes nothing
    event.Delivered 8 (reply.Newer 2) ∷
    -- all nodes of the version have answered
    event.Opened 0 2 (lane ∷ []) ∷
    event.Returned 14 ∷
    event.Delivered 14 (reply.Answer (record { bucket = lane; serial = 4; ready = false } ∷ []) []) ∷
    event.Sent 14 2 0 1 body.Ask ∷
    event.Returned 13 ∷
    event.Delivered 13 (reply.Answer (record { bucket = lane; serial = 2; ready = false } ∷ []) []) ∷
    event.Sent 13 2 0 0 body.Ask ∷
    event.Heard 0 2 ∷
    -- node 1 is retired: it serves and is no target any more
    event.Published state_two ∷
    life_one id

-- then node 1 is emptied, and there is one more write
abbrev pub life : Id → List LaneEvent
life id =
    event.Closed 3 (outcome.Acked stamp_three) ∷
    event.Returned 21 ∷
    event.Delivered 21 (reply.Answer [] []) ∷
    event.Sent 21 2 0 0 (body.Store stamp_three) ∷
    event.Wrote 3 (record { stamp = stamp_three; id = id; body = None }) ∷
    event.Prepared 3 lane 1 ∷
    event.Begun 3 0 2 id (Some stamp_three) ∷
    event.Decided 0 2 (choice.DeleteOver lane 1) ∷
    event.Returned 20 ∷
    -- node 1 held the entry and drops it
    event.Delivered 20 (reply.Answer [] []) ∷
    event.Sent 20 2 0 1 (body.Delete lane 4) ∷
    -- node 0 has all that node 1 showed
    event.Decided 0 2 (choice.DeleteFrom lane 1 4) ∷
    event.Delivered 19 (reply.Answer [] []) ∷
    event.Sent 19 2 0 0 (body.Activate lane) ∷
    activated id
