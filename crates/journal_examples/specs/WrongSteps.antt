-- Steps that no legal journal takes: each journal here is legal, and so would be the event that is named with it, but
-- that it comes too early, once more, or without an answer that it needs.
use Rattle.std.specs.Prelude.{◌≢◌, ℕ, true, false, List, [], ◌∷◌, None, Some}
use Rattle.cluster_states.specs.declared.marks.Mark.TheVariants.{Up, Down}
use Rattle.cluster_states.specs.declared.cluster_state.ClusterState.{ClusterState}
use Rattle.lane_journals.specs.Buckets.{Bucket, Id}
use Rattle.lane_journals.specs.Readers.{round_of}
use Rattle.lane_journals.specs.Facts.{AnsweredApply}
use Rattle.lane_journals.specs.Legal.{Permits, Keeper}
use Rattle.lane_journals.specs.States.{state_of}
use Rattle.lane_journals.specs.Meanings.{history, meaning}
use Rattle.lane_journals.specs.Naming.{WellNoted}
use Rattle.lane_journals.specs.Places.{Setting, Placed}
use Rattle.lane_journals.specs.Endings.{Ended}
use Rattle.lane_journals.specs.KeptJournals.{IsLegal}
use Rattle.journal_examples.specs.Lives.{lane, stamp_one, asked_both, opened_one, read_one, united_one}
use Rattle.messages.specs.declared.noted.NotedBody.TheVariants as body
use Rattle.messages.specs.declared.noted.NotedReply.TheVariants as reply
use Rattle.messages.specs.declared.decision.Decision.TheVariants as choice
use Rattle.lane_journals.specs.declared.event.LaneEvent.{LaneEvent}
use Rattle.lane_journals.specs.declared.event.LaneEvent.TheVariants as event

-- the journal is legal; what the event names is there, it is where the states say, and an outcome is what the journal
-- shows; but it may not come next
pub record IsRefused (S : Setting) (J : List LaneEvent) (e : LaneEvent) : Type 0 where
  pub legal : IsLegal S J
  pub noted : WellNoted J e
  pub placed : Placed S J e
  pub ended : Ended S J e
  pub unpermitted : Permits S.acks (state_of (history (e ∷ J))) (history J) (meaning J e) → ⊥

-- the opening, where node 1 has not answered
abbrev pub opened_early : LaneEvent
opened_early = event.Opened 0 1 (lane ∷ [])

-- a state without node 1, which may be the only one that has what was acknowledged
abbrev pub state_small : ClusterState
state_small = record { version = 2; distributors = Up ∷ []; nodes = Up ∷ Down ∷ []; groups = 1 }

-- a line is begun where no node is complete yet
abbrev pub incomplete_read : Id → List LaneEvent
incomplete_read id =
    event.Begun 1 0 1 id (Some stamp_one) ∷
    opened_one

-- node 0, the first in ideal order, is active, and the line's Store was answered by node 1 alone
abbrev pub acked_without_active : Id → List LaneEvent
acked_without_active id =
    event.Returned 8 ∷
    event.Delivered 8 (reply.Answer [] []) ∷
    event.Sent 8 1 0 1 (body.Store stamp_one) ∷
    event.Wrote 1 (record { stamp = stamp_one; id = id; body = None }) ∷
    event.Prepared 1 lane 3 ∷
    event.Begun 1 0 1 id (Some stamp_one) ∷
    event.Decided 0 1 (choice.ActiveOn lane 0) ∷
    event.Returned 7 ∷
    event.Delivered 7 (reply.Answer [] []) ∷
    event.Sent 7 1 0 0 (body.Ready lane) ∷
    united_one

-- node 1 is active, the only one that answered the first round's Apply; after a second round node 0, which comes first
-- in ideal order, is complete and ready as well
abbrev pub active_elsewhere : List LaneEvent
active_elsewhere =
    event.Returned 10 ∷
    event.Delivered 10 (reply.Answer [] []) ∷
    event.Sent 10 1 0 0 (body.Ready lane) ∷
    event.Decided 0 1 (choice.RoundEnded lane 1) ∷
    event.Returned 9 ∷
    event.Delivered 9 (reply.Answer [] []) ∷
    event.Sent 9 1 0 0 (body.Apply lane []) ∷
    event.Returned 8 ∷
    event.Delivered 8 (reply.Answer (record { bucket = lane; serial = 2; ready = true } ∷ []) []) ∷
    event.Sent 8 1 0 1 (body.Read lane None) ∷
    event.Returned 7 ∷
    event.Delivered 7 (reply.Answer [] []) ∷
    event.Sent 7 1 0 0 (body.Read lane None) ∷
    event.Decided 0 1 (choice.RoundBegun lane 3) ∷
    event.Decided 0 1 (choice.ActiveOn lane 1) ∷
    event.Returned 6 ∷
    event.Delivered 6 (reply.Answer [] []) ∷
    event.Sent 6 1 0 1 (body.Ready lane) ∷
    event.Decided 0 1 (choice.RoundEnded lane 2) ∷
    event.Returned 5 ∷
    event.Delivered 5 (reply.Answer [] []) ∷
    event.Sent 5 1 0 1 (body.Apply lane []) ∷
    read_one

-- ---- a lane of one copy: node 0 is the target of its bucket, node 1 that of the bucket's second half

abbrev pub whole : Bucket
whole = record { bits = 1; low = 1 }

abbrev pub half : Bucket
half = record { bits = 2; low = 3 }

abbrev pub one_copy : Setting
one_copy = record { lane = whole; acks = 1; redundancy = 1 }

-- the whole's last round read a piece at node 1, and node 0 took its Apply; but now a Delete of its half is sent for, so
-- node 0 doesn't keep what a Delete would take from node 1
abbrev pub deleting_keeper : List LaneEvent
deleting_keeper =
    event.Decided 0 1 (choice.RowsJoined whole) ∷
    -- node 1 has all that node 0 showed
    event.Decided 0 1 (choice.DeleteFrom half 0 2) ∷
    event.Decided 0 1 (choice.RoundEnded half 2) ∷
    event.Returned 13 ∷
    event.Delivered 13 (reply.Answer [] []) ∷
    event.Sent 13 1 0 1 (body.Apply half []) ∷
    event.Returned 12 ∷
    event.Delivered 12 (reply.Answer (record { bucket = whole; serial = 3; ready = false } ∷ []) []) ∷
    event.Sent 12 1 0 1 (body.Read half None) ∷
    event.Returned 11 ∷
    event.Delivered 11 (reply.Answer (record { bucket = half; serial = 2; ready = false } ∷ []) []) ∷
    event.Sent 11 1 0 0 (body.Read half None) ∷
    event.Decided 0 1 (choice.RoundBegun half 2) ∷
    event.Delivered 10 (reply.Answer [] []) ∷
    event.Sent 10 1 0 0 (body.Split half) ∷
    event.Decided 0 1 (choice.RowSplit whole) ∷
    event.Decided 0 1 (choice.RoundEnded whole 1) ∷
    event.Returned 9 ∷
    event.Delivered 9 (reply.Answer [] []) ∷
    event.Sent 9 1 0 0 (body.Apply whole []) ∷
    event.Returned 8 ∷
    event.Delivered 8 (reply.Answer (record { bucket = whole; serial = 3; ready = false } ∷ []) []) ∷
    event.Sent 8 1 0 1 (body.Read whole None) ∷
    event.Returned 7 ∷
    event.Delivered 7 (reply.Answer [] []) ∷
    event.Sent 7 1 0 0 (body.Read whole None) ∷
    event.Decided 0 1 (choice.RoundBegun whole 1) ∷
    event.Delivered 6 (reply.Answer [] []) ∷
    event.Sent 6 1 0 1 (body.Join whole) ∷
    event.Decided 0 1 (choice.RowsJoined whole) ∷
    event.Decided 0 1 (choice.RoundEnded half 2) ∷
    event.Returned 5 ∷
    event.Delivered 5 (reply.Answer [] []) ∷
    event.Sent 5 1 0 1 (body.Apply half []) ∷
    event.Returned 4 ∷
    event.Delivered 4 (reply.Answer [] []) ∷
    event.Sent 4 1 0 1 (body.Read half None) ∷
    event.Returned 3 ∷
    event.Delivered 3 (reply.Answer [] []) ∷
    event.Sent 3 1 0 0 (body.Read half None) ∷
    event.Decided 0 1 (choice.RoundBegun half 2) ∷
    event.Decided 0 1 (choice.RowSplit whole) ∷
    event.Opened 0 1 (whole ∷ []) ∷
    asked_both

-- the node answered the Apply of the bucket's newest round, and yet doesn't keep what a Delete takes from another
pub record IsNoKeeper (v : ℕ) (b : Bucket) (n m : ℕ) (J : List LaneEvent) : Type 0 where
  pub answered : AnsweredApply v (round_of v b (history J)) m b (history J)
  pub other : m ≢ n
  pub kept : Keeper v (round_of v b (history J)) n m b (history J) → ⊥
