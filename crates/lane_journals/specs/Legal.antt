-- Which event may come next: a record an event kind, each condition under the name of what it says.
-- P says for each version which nodes serve under it, and acks how many copies a write needs.
use Rattle.std.specs.Prelude.{◌≡◌, ◌≢◌, ℕ, ◌+◌, ◌^◌, ◌<◌, ◌≤◌, Bool, true, false, ◌⊎◌, List, [], ◌∷◌, Option, Some, None}
use Rattle.lane_journals.specs.Sets.{count, AtLeast, both, outside}
use Rattle.lane_journals.specs.Stamps.{Stamp, Le}
use Rattle.lane_journals.specs.Buckets.{Id, Bucket, contains, first_child, second_child, across, key_of}
use Rattle.lane_journals.specs.Events.{Content, Body, Ask, Read, ReadDoc, Store, Apply, Delete, Activate, Reply, Answer, Newer, NoBucket, Differs, NoMemory, Decision, RoundBegun, RoundEnded, RowSplit, RowsJoined, ActiveOn, DeleteFrom, DeleteOver, Event, Published, Heard, Begun, Opened, Prepared, Wrote, Sent, Delivered, Returned, Closed, Decided, Refused, Stopped, Started, Split, Join, Ready}
use Rattle.lane_journals.specs.Readers.{Journal, published, known, stopped, held, Beginning, began, refused, stamps_of, Preparing, prepared, wrote, closed, opened, row_in, row_at, round_of, running, Message, sent, first_reply, returned, version, store, acceptable, was_named, stands, holds, Given, answer, answered_store, complete, active, Deleting, deleting}
use Rattle.lane_journals.specs.Pieces.{any_covers, any_inside, any_meets, is_piece, ready_covers, pieces, MayTake}
use Rattle.lane_journals.specs.Facts.{Shown, Applied, AnsweredAsk, AnsweredApply, IsRow, IsMember, IsOpen, Idle, WasAsked, ReadBack}

-- ---- states

pub record MayPublish (acks : ℕ) (P : ℕ → ℕ → Bool) (J : Journal) (v : ℕ) (set : ℕ → Bool) : Type 0 where
  -- versions rise
  pub newest : (w : ℕ) → published w J ≡ true → w < v
  pub nodes : (n : ℕ) → set n ≡ P v n
  pub small : (n : ℕ) → set n ≡ true → n < 32
  pub inhabited : (n : ℕ) × (set n ≡ true)
  -- fewer than acks known nodes are left out, so a node of each acknowledgement serves
  pub few : count (both (λ n. known v n (Published v set ∷ J)) (outside set)) < acks

pub record MayHear (J : Journal) (d v : ℕ) : Type 0 where
  pub state : published v J ≡ true
  pub newest : (w : ℕ) → published w J ≡ true → w ≤ v
  -- a state that is held already makes no event
  pub newer : (w : ℕ) → held d J ≡ Some w → w < v
  -- its operations belong to the version that it held as they began
  pub idle : (line : ℕ) (begin : Beginning) → began line J ≡ Some begin → begin.distributor ≡ d → closed line J ≡ true

-- ---- lines

-- a line is refused once, and not where it was begun
pub record MayRefuse (J : Journal) (line d v : ℕ) : Type 0 where
  pub fresh : began line J ≡ None
  pub unrefused : refused line J ≡ false
  pub holder : held d J ≡ Some v

-- the version, and one more than the count of stamps so far; a get has none
abbrev pub IsNextStamp : Journal → ℕ → Option Stamp → Type 0
IsNextStamp J v None = Unit {0}
IsNextStamp J v (Some s) = (s.version ≡ v) × (s.count ≡ stamps_of v J + 1)

pub record MayBegin (J : Journal) (line d v : ℕ) (id : Id) (s : Option Stamp) : Type 0 where
  pub fresh : began line J ≡ None
  pub unrefused : refused line J ≡ false
  pub holder : held d J ≡ Some v
  -- no other operation on the document is open: what one reads no other one changes meanwhile
  pub alone : (other : ℕ) (begin : Beginning) → began other J ≡ Some begin → begin.id ≡ id → closed other J ≡ true
  pub stamp : IsNextStamp J v s

pub record MayPrepare (acks : ℕ) (J : Journal) (line : ℕ) (b : Bucket) (set : ℕ → Bool) : Type 0 where
  pub begin : Beginning
  pub begun : began line J ≡ Some begin
  pub fresh : prepared line J ≡ None
  pub unclosed : closed line J ≡ false
  pub row : IsRow begin.version b J
  pub inside : contains b (key_of begin.id) ≡ true
  -- what a round unites no operation changes meanwhile
  pub no_round : running begin.version b J ≡ false
  -- only complete members hold all that was acknowledged
  pub recipients : (n key : ℕ) → contains b key ≡ true → set n ≡ complete begin.version n key J
  pub enough : acks ≤ count set

-- so many of a line's recipients answered its Reads
abbrev pub EnoughRead : ℕ → Journal → ℕ → Beginning → Preparing → Type 0
EnoughRead acks J line begin p = AtLeast acks (λ n. (p.recipients n ≡ true) × ((content : Content) × ReadBack n line begin content J))

-- once per line, with the stamp that it began with, after enough answers where it read
pub record MayWrite (acks : ℕ) (J : Journal) (line : ℕ) : Type 0 where
  pub begin : Beginning
  pub begun : began line J ≡ Some begin
  pub stamp : Stamp
  pub stamped : begin.stamp ≡ Some stamp
  pub preparing : Preparing
  pub was_prepared : prepared line J ≡ Some preparing
  pub unwritten : wrote line J ≡ false
  pub unclosed : closed line J ≡ false
  pub seen : WasAsked line begin J → EnoughRead acks J line begin preparing

-- what an acknowledgement asks: enough recipients have the entry, and the active node where one is decided
pub record MayAck (acks : ℕ) (J : Journal) (line : ℕ) (begin : Beginning) : Type 0 where
  pub stamp : Stamp
  pub stamped : begin.stamp ≡ Some stamp
  pub preparing : Preparing
  pub was_prepared : prepared line J ≡ Some preparing
  pub enough : AtLeast acks (λ n. (preparing.recipients n ≡ true) × (answered_store begin.version begin.id stamp n J ≡ true))
  pub active : (n key : ℕ) → contains preparing.row key ≡ true → active begin.version key J ≡ Some n → answered_store begin.version begin.id stamp n J ≡ true

-- once per line
pub record MayClose (acks : ℕ) (J : Journal) (line : ℕ) (ok : Bool) : Type 0 where
  pub begin : Beginning
  pub begun : began line J ≡ Some begin
  pub unclosed : closed line J ≡ false
  pub acked : ok ≡ true → MayAck acks J line begin

-- ---- openings

-- buckets without a common key
abbrev pub Parted : List Bucket → Type 0
Parted [] = Unit {0}
Parted (b ∷ bs) = (b.low < 2 ^ b.bits) × ((key : ℕ) → contains b key ≡ true → row_in key bs ≡ None) × Parted bs

pub record MayOpen (P : ℕ → ℕ → Bool) (J : Journal) (d v : ℕ) (rows : List Bucket) : Type 0 where
  pub holder : held d J ≡ Some v
  pub parted : Parted rows
  pub once : opened v J ≡ false
  -- from here on no node of the version takes a message of a smaller one
  pub all : (n : ℕ) → P v n ≡ true → AnsweredAsk v n J
  pub state : published v J ≡ true

-- ---- messages

-- the message belongs to an operation of its version that is prepared and not closed, of which the node is a recipient
pub record Belongs (J : Journal) (v n : ℕ) (id : Id) : Type 0 where
  pub line : ℕ
  pub begin : Beginning
  pub preparing : Preparing
  pub is_open : IsOpen v line begin preparing J
  pub same_id : begin.id ≡ id
  pub recipient : preparing.recipients n ≡ true

-- and carries what that operation wrote
pub record Carries (J : Journal) (v n : ℕ) (id : Id) (s : Stamp) : Type 0 where
  pub belongs : Belongs J v n id
  pub stamped : (belongs.begin).stamp ≡ Some s
  pub written : wrote belongs.line J ≡ true

-- a Read of the round under way, before its union is sent
pub record MayAsk (J : Journal) (v : ℕ) (b : Bucket) : Type 0 where
  pub under_way : running v b J ≡ true
  pub first : (n : ℕ) (u : Content) → Applied v (round_of v b J) n b u J → ⊥

-- the union: of the answers of all nodes of the version the newest entry of each document, and nothing else
pub record MayUnite (P : ℕ → ℕ → Bool) (J : Journal) (v : ℕ) (b : Bucket) (u : Content) : Type 0 where
  pub under_way : running v b J ≡ true
  pub covers : (m : ℕ) → P v m ≡ true → (g : Given) × (answer v (round_of v b J) m J ≡ Some g) × ((id : Id) → Le (g.content id) (u id))
  pub attained : (id : Id) (s : Stamp) → u id ≡ Some s → (m : ℕ) × (g : Given) × (answer v (round_of v b J) m J ≡ Some g) × (g.content id ≡ Some s)

-- what a message may carry to a node
abbrev pub MayCarry : (ℕ → ℕ → Bool) → Journal → ℕ → ℕ → Body → Type 0
MayCarry P J v n Ask = opened v J ≡ false
MayCarry P J v n (Read b) = MayAsk J v b
MayCarry P J v n (ReadDoc id) = Belongs J v n id
MayCarry P J v n (Store id s) = Carries J v n id s
MayCarry P J v n (Apply b u) = MayUnite P J v b u
MayCarry P J v n (Delete b s) = (key : ℕ) × (deleting v key J ≡ Some (record { bucket = b; node = n; serial = s }))
MayCarry P J v n (Activate b) = IsRow v b J × ((key : ℕ) → contains b key ≡ true → active v key J ≡ Some n)
MayCarry P J v n (Join b) = b.low < 2 ^ b.bits
MayCarry P J v n _ = Unit {0}

pub record MaySend (P : ℕ → ℕ → Bool) (J : Journal) (k v d n : ℕ) (body : Body) : Type 0 where
  pub greater : (j : ℕ) (m : Message) → sent j J ≡ Some m → j < k
  pub holder : held d J ≡ Some v
  pub member : P v n ≡ true
  -- Asks open a version, all else comes after
  pub timing : (body ≡ Ask) ⊎ (opened v J ≡ true)
  pub carries : MayCarry P J v n body

-- what the Read of a row shows: the store within the bucket; and a piece has one serial twice only if nothing was accepted there in between
pub record MayShow (J : Journal) (n : ℕ) (b : Bucket) (g : Given) : Type 0 where
  pub content : (id : Id) → contains b (key_of id) ≡ true → g.content id ≡ store n id J
  pub only : (id : Id) → contains b (key_of id) ≡ false → g.content id ≡ None
  pub serial : (c : Bucket) (s : ℕ) → g.names c s ≡ true → (v r : ℕ) (d : Bucket) (h : Given) → Shown v r n d h J → h.names c s ≡ true → acceptable n c s J ≡ true

-- what the refusal NoBucket says: no piece is there; a message that a round or an opening needs isn't refused
abbrev pub Lacks : Journal → ℕ → Body → Type 0
Lacks J n (Store id s) = holds n (key_of id) J ≡ false
Lacks J n (ReadDoc id) = holds n (key_of id) J ≡ false
Lacks J n Ask = ⊥
Lacks J n (Read b) = ⊥
Lacks J n (Apply b u) = ⊥
Lacks J n (Split b) = any_covers b (pieces n J) ≡ false
Lacks J n (Join b) = any_inside b (pieces n J) ≡ false
Lacks J n (Ready b) = any_meets b (pieces n J) ≡ false
Lacks J n (Activate b) = any_covers b (pieces n J) ≡ false
Lacks J n (Delete b s) = any_meets b (pieces n J) ≡ false

-- what the refusal Differs says: a piece is there, and isn't what was named
abbrev pub Differ : Journal → ℕ → Body → Type 0
Differ J n (Ready b) = (any_meets b (pieces n J) ≡ true) × (is_piece b (pieces n J) ≡ false)
Differ J n (Activate b) = (any_covers b (pieces n J) ≡ true) × (ready_covers b (pieces n J) ≡ false)
Differ J n (Delete b s) = any_meets b (pieces n J) ≡ true
Differ J n _ = ⊥

-- what an answer says of what the node has
abbrev pub Has : Journal → ℕ → Body → Type 0
Has J n (Store id s) = holds n (key_of id) J ≡ true
Has J n (ReadDoc id) = holds n (key_of id) J ≡ true
Has J n _ = Unit {0}

-- a Delete is refused only where it isn't acceptable
abbrev pub NotAcceptable : Journal → Message → Type 0
NotAcceptable J m = (b : Bucket) (s : ℕ) → m.body ≡ Delete b s → acceptable m.receiver b s J ≡ false

pub record MayAnswer (J : Journal) (m : Message) (g : Given) : Type 0 where
  -- a message of a smaller version than the node's isn't accepted
  pub low : version m.receiver J ≤ m.version
  pub has : Has J m.receiver m.body
  pub takes : MayTake (pieces m.receiver J) m.body
  pub show : (b : Bucket) → m.body ≡ Read b → MayShow J m.receiver b g
  pub show_one : (id : Id) → m.body ≡ ReadDoc id → g.content id ≡ store m.receiver id J
  -- a piece has one serial twice only if nothing was accepted there in between
  pub fresh : (c : Bucket) (s : ℕ) → g.names c s ≡ true → was_named m.receiver c s J ≡ true → stands m.receiver c s J ≡ true
  -- and a Delete only where nothing was accepted since the piece was read
  pub may_delete : (b : Bucket) (s : ℕ) → m.body ≡ Delete b s → acceptable m.receiver b s J ≡ true

abbrev pub Replies : Journal → Message → Reply → Type 0
Replies J m (Newer w) = (m.version < w) × (w ≡ version m.receiver J)
Replies J m (Answer x names) = MayAnswer J m (record { content = x; names = names })
Replies J m NoBucket = (version m.receiver J ≤ m.version) × NotAcceptable J m × Lacks J m.receiver m.body
Replies J m Differs = (version m.receiver J ≤ m.version) × NotAcceptable J m × Differ J m.receiver m.body
Replies J m NoMemory = version m.receiver J ≤ m.version

-- any time after it was sent, and any number of times, while the receiver runs
pub record MayDeliver (J : Journal) (k : ℕ) (r : Reply) : Type 0 where
  pub message : Message
  pub was_sent : sent k J ≡ Some message
  pub runs : stopped message.receiver J ≡ false
  pub reply : Replies J message r

-- once per message, and it speaks of the first delivery
pub record MayReturn (J : Journal) (k : ℕ) : Type 0 where
  pub once : returned k J ≡ false
  pub reply : Reply
  pub replied : first_reply k J ≡ Some reply

-- ---- decisions

-- what all decisions on a row ask but the end of a round: nothing is under way in it
pub record IsIdleRow (v : ℕ) (b : Bucket) (J : Journal) : Type 0 where
  pub row : IsRow v b J
  pub no_round : running v b J ≡ false
  pub idle : Idle v b J

-- the complete members are just the receivers that answered the union; where a Read wasn't answered no union was sent
pub record MayEndRound (J : Journal) (v : ℕ) (b : Bucket) (set : ℕ → Bool) : Type 0 where
  pub under_way : running v b J ≡ true
  pub idle : Idle v b J
  pub answered : (n : ℕ) → set n ≡ true → AnsweredApply v (round_of v b J) n b J
  pub whole : (n : ℕ) → AnsweredApply v (round_of v b J) n b J → set n ≡ true

pub record MayJoin (J : Journal) (v : ℕ) (p : Bucket) : Type 0 where
  pub fits : p.low < 2 ^ p.bits
  pub first : IsIdleRow v (first_child p) J
  pub second : IsIdleRow v (second_child p) J
  -- the joined row has one active node or none, and one Delete or none
  pub same_active : (key : ℕ) → contains p key ≡ true → active v key J ≡ active v (across p key) J
  pub one_delete : (key : ℕ) → contains p key ≡ true → (deleting v key J ≡ None) ⊎ (deleting v (across p key) J ≡ None)

pub record MayActivate (J : Journal) (v : ℕ) (b : Bucket) (n : ℕ) : Type 0 where
  pub quiet : IsIdleRow v b J
  -- at most once a row and version: a search counts no document twice
  pub undecided : (key : ℕ) → contains b key ≡ true → active v key J ≡ None
  pub member : IsMember v n b J

-- a node that keeps what a Delete takes from another: it is complete now and has the round's union
pub record Keeper (v r n m : ℕ) (b : Bucket) (J : Journal) : Type 0 where
  pub other : m ≢ n
  pub member : IsMember v m b J
  pub answered : AnsweredApply v r m b J

pub record MayDelete (acks : ℕ) (J : Journal) (v : ℕ) (b : Bucket) (n s : ℕ) : Type 0 where
  pub quiet : IsIdleRow v b J
  -- one unanswered Delete a row
  pub none : (key : ℕ) → contains b key ≡ true → deleting v key J ≡ None
  pub inactive : (key : ℕ) → contains b key ≡ true → active v key J ≡ Some n → ⊥
  -- the row's last round read just this piece with this serial
  pub given : Given
  pub read : answer v (round_of v b J) n J ≡ Some given
  pub named : given.names b s ≡ true
  pub keepers : AtLeast acks (λ m. Keeper v (round_of v b J) n m b J)

-- only these end a Delete: after each the node won't accept it any more
abbrev pub is_ending : Reply → Bool
is_ending (Answer x names) = true
is_ending NoBucket = true
is_ending Differs = true
is_ending _ = false

pub record MayForget (J : Journal) (v : ℕ) (b : Bucket) (n : ℕ) : Type 0 where
  pub key : ℕ
  pub delete : Deleting
  pub pending : deleting v key J ≡ Some delete
  pub bucket : delete.bucket ≡ b
  pub node : delete.node ≡ n
  -- nothing is under way in any row that has it
  pub no_round : (other : ℕ) (row : Bucket) → deleting v other J ≡ Some delete → row_at v other J ≡ Some row → running v row J ≡ false
  pub idle : (other line : ℕ) (begin : Beginning) (p : Preparing) → deleting v other J ≡ Some delete → IsOpen v line begin p J → contains p.row other ≡ true → ⊥
  -- a message with its content, of this version, was returned with an end
  pub number : ℕ
  pub message : Message
  pub was_sent : sent number J ≡ Some message
  pub receiver : message.receiver ≡ n
  pub version : message.version ≡ v
  pub body : message.body ≡ Delete b delete.serial
  pub reply : Reply
  pub replied : first_reply number J ≡ Some reply
  pub ending : is_ending reply ≡ true
  pub back : returned number J ≡ true

abbrev pub MayDecide : ℕ → Journal → ℕ → Decision → Type 0
MayDecide acks J v (RoundBegun b) = IsIdleRow v b J
MayDecide acks J v (RoundEnded b set) = MayEndRound J v b set
MayDecide acks J v (RowSplit b) = (b.bits < 58) × IsIdleRow v b J
MayDecide acks J v (RowsJoined p) = MayJoin J v p
MayDecide acks J v (ActiveOn b n) = MayActivate J v b n
MayDecide acks J v (DeleteFrom b n s) = MayDelete acks J v b n s
MayDecide acks J v (DeleteOver b n) = MayForget J v b n

-- ---- all events

abbrev pub Permits : ℕ → (ℕ → ℕ → Bool) → Journal → Event → Type 0
Permits acks P J (Published v set) = MayPublish acks P J v set
Permits acks P J (Heard d v) = MayHear J d v
Permits acks P J (Begun line d v id s) = MayBegin J line d v id s
Permits acks P J (Opened d v rows) = MayOpen P J d v rows
Permits acks P J (Prepared line b set) = MayPrepare acks J line b set
Permits acks P J (Wrote line kind) = MayWrite acks J line
Permits acks P J (Sent k v d n body) = MaySend P J k v d n body
Permits acks P J (Delivered k r) = MayDeliver J k r
Permits acks P J (Returned k) = MayReturn J k
Permits acks P J (Closed line ok) = MayClose acks J line ok
Permits acks P J (Decided d v x) = (held d J ≡ Some v) × MayDecide acks J v x
Permits acks P J (Refused line d v) = MayRefuse J line d v
Permits acks P J (Stopped n) = stopped n J ≡ false
Permits acks P J (Started n) = stopped n J ≡ true

-- the empty journal is legal, and so is a legal one with an event that may come next
abbrev pub Legal : ℕ → (ℕ → ℕ → Bool) → Journal → Type 0
Legal acks P [] = Unit {0}
Legal acks P (e ∷ J) = Legal acks P J × Permits acks P J e

-- a fact of all legal journals
abbrev pub OfLegal : (ℕ → (ℕ → ℕ → Bool) → Journal → Type 0) → Type 0
OfLegal L = (acks : ℕ) (P : ℕ → ℕ → Bool) (J : Journal) → Legal acks P J → L acks P J
