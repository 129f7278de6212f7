-- What kept events mean: an entry that is named by its stamp is the one that was written with it, a set of
-- nodes is the test of its members.
use Rattle.std.specs.Prelude.{◌==◌, ℕ, Bool, true, false, List, [], ◌∷◌, Option, Some, None, if◌then◌else◌, is_some}
use Rattle.node_sets.specs.Members.{has_node}
use Rattle.cluster_states.specs.Publishing.{serves}
use Rattle.documents.specs.declared.entry.Entry.{Entry}
use Rattle.lane_journals.specs.Stamps.{Stamp, newer, same_stamp}
use Rattle.lane_journals.specs.Buckets.{Id, same_id, Bucket, same_bucket}
use Rattle.lane_journals.specs.Events as plain
use Rattle.lane_journals.specs.Events.{Content, Event, Body, Reply, Decision}
use Rattle.lane_journals.specs.Readers.{Journal, or_else, only_if}
use Rattle.messages.specs.declared.outcome.Outcome.{Outcome}
use Rattle.messages.specs.declared.outcome.Outcome.TheVariants.{Acked, OwnedElsewhere}
use Rattle.pieces.specs.declared.piece.Piece.{Piece}
use Rattle.messages.specs.declared.noted.NotedBody.{NotedBody}
use Rattle.messages.specs.declared.noted.NotedBody.TheVariants.{Ask, Read, Store, Apply, Delete, Split, Join, Ready, Activate}
use Rattle.messages.specs.declared.noted.NotedReply.{NotedReply}
use Rattle.messages.specs.declared.noted.NotedReply.TheVariants.{Answer, Newer, NoBucket, Differs, NoMemory}
use Rattle.messages.specs.declared.decision.Decision.{Decision as NotedDecision}
use Rattle.messages.specs.declared.decision.Decision.TheVariants as choice
use Rattle.lane_journals.specs.declared.event.LaneEvent.{LaneEvent}
use Rattle.lane_journals.specs.declared.event.LaneEvent.TheVariants.{Published, Heard, Begun, Refused, Opened, Prepared, Wrote, Sent, Delivered, Returned, Closed, Decided, Stopped, Started}

-- the members of a set of nodes
abbrev pub nodes : ℕ → ℕ → Bool
nodes bits n = has_node bits n

-- the entry that was written with a stamp
abbrev pub entry_at : Stamp → List LaneEvent → Option Entry
entry_at s [] = None
entry_at s (Wrote l entry ∷ J) = or_else (entry_at s J) (only_if (same_stamp entry.stamp s) entry)
entry_at s (_ ∷ J) = entry_at s J

abbrev pub id_in : Option Entry → Option Id
id_in None = None
id_in (Some e) = Some e.id

-- the document that was written with a stamp
abbrev pub written : Stamp → List LaneEvent → Option Id
written s J = id_in (entry_at s J)

-- the stamp, where it is of the document
abbrev pub entry_of : Id → Stamp → Option Id → Option Stamp
entry_of id s None = None
entry_of id s (Some i) = if same_id i id then Some s else None

-- the newest of the stamps that is of the document
abbrev pub pick : List LaneEvent → Id → List Stamp → Option Stamp
pick J id [] = None
pick J id (s ∷ ss) = newer (entry_of id s (written s J)) (pick J id ss)

-- what the stamps name, as a content
abbrev pub content : List LaneEvent → List Stamp → Content
content J ss id = pick J id ss

-- the pieces name the bucket with the serial
abbrev pub names : List Piece → Bucket → ℕ → Bool
names [] b s = false
names (p ∷ ps) b s = if same_bucket p.bucket b then (if p.serial == s then true else names ps b s) else names ps b s

abbrev pub id_at : Option Id → Id
id_at None = []
id_at (Some i) = i

abbrev pub meaning_body : List LaneEvent → NotedBody → Body
meaning_body J Ask = plain.Ask
meaning_body J (Read b None) = plain.Read b
meaning_body J (Read b (Some id)) = plain.ReadDoc id
meaning_body J (Store s) = plain.Store (id_at (written s J)) s
meaning_body J (Apply b ss) = plain.Apply b (content J ss)
meaning_body J (Delete b s) = plain.Delete b s
meaning_body J (Split b) = plain.Split b
meaning_body J (Join b) = plain.Join b
meaning_body J (Ready b) = plain.Ready b
meaning_body J (Activate b) = plain.Activate b

abbrev pub meaning_reply : List LaneEvent → NotedReply → Reply
meaning_reply J (Answer ps ss) = plain.Answer (content J ss) (names ps)
meaning_reply J (Newer w) = plain.Newer w
meaning_reply J NoBucket = plain.NoBucket
meaning_reply J Differs = plain.Differs
meaning_reply J NoMemory = plain.NoMemory

abbrev pub meaning_decision : NotedDecision → Decision
meaning_decision (choice.RoundBegun b receivers) = plain.RoundBegun b
meaning_decision (choice.RoundEnded b set) = plain.RoundEnded b (nodes set)
meaning_decision (choice.RowSplit b) = plain.RowSplit b
meaning_decision (choice.RowsJoined p) = plain.RowsJoined p
meaning_decision (choice.ActiveOn b n) = plain.ActiveOn b n
meaning_decision (choice.DeleteFrom b n s) = plain.DeleteFrom b n s
meaning_decision (choice.DeleteOver b n) = plain.DeleteOver b n

-- the operation was acknowledged
abbrev pub is_acked : Outcome → Bool
is_acked (Acked stamp) = true
is_acked _ = false

-- the version under which a line was refused
abbrev pub version_in : Outcome → ℕ
version_in (OwnedElsewhere owner v) = v
version_in _ = 0

-- what the event means after the journal
abbrev pub meaning : List LaneEvent → LaneEvent → Event
meaning J (Published state) = plain.Published state.version (serves state)
meaning J (Heard d v) = plain.Heard d v
meaning J (Begun l d v id s) = plain.Begun l d v id s
meaning J (Refused l d outcome) = plain.Refused l d (version_in outcome)
meaning J (Opened d v rows) = plain.Opened d v rows
meaning J (Prepared l b set) = plain.Prepared l b (nodes set)
meaning J (Wrote l entry) = plain.Wrote l (is_some entry.body)
meaning J (Sent k v d n b) = plain.Sent k v d n (meaning_body J b)
meaning J (Delivered k r) = plain.Delivered k (meaning_reply J r)
meaning J (Returned k) = plain.Returned k
meaning J (Closed l outcome) = plain.Closed l (is_acked outcome)
meaning J (Decided d v x) = plain.Decided d v (meaning_decision x)
meaning J (Stopped n) = plain.Stopped n
meaning J (Started n) = plain.Started n

-- what the kept events mean
abbrev pub history : List LaneEvent → Journal
history [] = []
history (e ∷ J) = meaning J e ∷ history J
