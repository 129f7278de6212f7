-- What a journal says; the newest event is at its head.
use Rattle.std.specs.Prelude.{◌≡◌, ℕ, ◌+◌, ◌≤◌, Bool, true, false, ◌⊎◌, ◌==◌, nat_le, nat_lt, max, List, [], ◌∷◌, Option, Some, None, if◌then◌else◌}
use Rattle.lane_journals.specs.Stamps.{Stamp, Le, newer, same_stamp}
use Rattle.lane_journals.specs.Buckets.{Bucket, contains, same_bucket, meets, first_child, second_child, across, Id, same_id, key_of}
use Rattle.lane_journals.specs.Events.{Content, Body, Ask, Read, ReadDoc, Store, Apply, Delete, Split, Join, Ready, Activate, Reply, Answer, RoundBegun, RoundEnded, RowSplit, RowsJoined, ActiveOn, DeleteFrom, DeleteOver, Event, Published, Heard, Begun, Opened, Prepared, Wrote, Sent, Delivered, Returned, Closed, Decided, Refused, Stopped, Started}

abbrev pub Journal : Type 0
Journal = List Event

-- the first where it is there, else the second: what stands stays
abbrev pub or_else : {A : Type 0} → Option A → Option A → Option A
or_else (Some a) b = Some a
or_else None b = b

abbrev pub only_if : {A : Type 0} → Bool → A → Option A
only_if true a = Some a
only_if false a = None

-- ---- states

abbrev pub published : ℕ → Journal → Bool
published v [] = false
published v (Published w set ∷ J) = if w == v then true else published v J
published v (_ ∷ J) = published v J

-- in a state published up to v
abbrev pub known : ℕ → ℕ → Journal → Bool
known v n [] = false
known v n (Published w set ∷ J) = if nat_le w v then (if set n then true else known v n J) else known v n J
known v n (_ ∷ J) = known v n J

abbrev pub stopped : ℕ → Journal → Bool
stopped n [] = false
stopped n (Stopped m ∷ J) = if m == n then true else stopped n J
stopped n (Started m ∷ J) = if m == n then false else stopped n J
stopped n (_ ∷ J) = stopped n J

abbrev pub held : ℕ → Journal → Option ℕ
held d [] = None
held d (Heard e w ∷ J) = if e == d then Some w else held d J
held d (_ ∷ J) = held d J

-- ---- lines

pub record Beginning : Type 0 where
  pub distributor : ℕ
  pub version : ℕ
  pub id : Id
  pub stamp : Option Stamp

abbrev pub began : ℕ → Journal → Option Beginning
began k [] = None
began k (Begun l d v id s ∷ J) = or_else (began k J) (only_if (l == k) (record { distributor = d; version = v; id = id; stamp = s }))
began k (_ ∷ J) = began k J

-- a distributor refused the line
abbrev pub refused : ℕ → Journal → Bool
refused k [] = false
refused k (Refused l d v ∷ J) = if l == k then true else refused k J
refused k (_ ∷ J) = refused k J

abbrev pub stamps_of : ℕ → Journal → ℕ
stamps_of v [] = 0
stamps_of v (Begun l d w id (Some s) ∷ J) = if w == v then stamps_of v J + 1 else stamps_of v J
stamps_of v (Begun l d w id None ∷ J) = stamps_of v J
stamps_of v (_ ∷ J) = stamps_of v J

pub record Preparing : Type 0 where
  pub row : Bucket
  pub recipients : ℕ → Bool

abbrev pub prepared : ℕ → Journal → Option Preparing
prepared k [] = None
prepared k (Prepared l b set ∷ J) = or_else (prepared k J) (only_if (l == k) (record { row = b; recipients = set }))
prepared k (_ ∷ J) = prepared k J

abbrev pub wrote : ℕ → Journal → Bool
wrote k [] = false
wrote k (Wrote l kind ∷ J) = if l == k then true else wrote k J
wrote k (_ ∷ J) = wrote k J

abbrev pub closed : ℕ → Journal → Bool
closed k [] = false
closed k (Closed l ok ∷ J) = if l == k then true else closed k J
closed k (_ ∷ J) = closed k J

-- the journal as a line began
abbrev pub before_line : ℕ → Journal → Journal
before_line k [] = []
before_line k (Begun l d v id s ∷ J) = if l == k then J else before_line k J
before_line k (_ ∷ J) = before_line k J

-- ---- rows

abbrev pub opened : ℕ → Journal → Bool
opened v [] = false
opened v (Opened d w rows ∷ J) = if w == v then true else opened v J
opened v (_ ∷ J) = opened v J

abbrev pub row_in : ℕ → List Bucket → Option Bucket
row_in key [] = None
row_in key (b ∷ rows) = if contains b key then Some b else row_in key rows

-- the row of a key
abbrev pub row_at : ℕ → ℕ → Journal → Option Bucket
row_at v key [] = None
row_at v key (Opened d w rows ∷ J) = if w == v then row_in key rows else row_at v key J
row_at v key (Decided d w (RowSplit b) ∷ J) = if w == v then (if contains b key then Some (if contains (first_child b) key then first_child b else second_child b) else row_at v key J) else row_at v key J
row_at v key (Decided d w (RowsJoined p) ∷ J) = if w == v then (if contains p key then Some p else row_at v key J) else row_at v key J
row_at v key (_ ∷ J) = row_at v key J

-- how many rounds of v were begun, in all rows
abbrev pub rounds : ℕ → Journal → ℕ
rounds v [] = 0
rounds v (Decided d w (RoundBegun b) ∷ J) = if w == v then rounds v J + 1 else rounds v J
rounds v (_ ∷ J) = rounds v J

-- the number of the bucket's newest round
abbrev pub round_of : ℕ → Bucket → Journal → ℕ
round_of v b [] = 0
round_of v b (Decided d w (RoundBegun c) ∷ J) = if w == v then (if same_bucket c b then rounds v J + 1 else round_of v b J) else round_of v b J
round_of v b (_ ∷ J) = round_of v b J

-- a round of the bucket is under way
abbrev pub running : ℕ → Bucket → Journal → Bool
running v b [] = false
running v b (Decided d w (RoundBegun c) ∷ J) = if w == v then (if same_bucket c b then true else running v b J) else running v b J
running v b (Decided d w (RoundEnded c set) ∷ J) = if w == v then (if same_bucket c b then false else running v b J) else running v b J
running v b (_ ∷ J) = running v b J

-- ---- messages

pub record Message : Type 0 where
  pub version : ℕ
  pub receiver : ℕ
  pub body : Body
  -- of a Read of a row and an Apply
  pub round : ℕ

-- the number of the round that a body belongs to
abbrev pub round_in : ℕ → Body → Journal → ℕ
round_in v (Read b) J = round_of v b J
round_in v (Apply b u) J = round_of v b J
round_in v _ J = 0

abbrev pub sent : ℕ → Journal → Option Message
sent k [] = None
sent k (Sent n v d to body ∷ J) = or_else (sent k J) (only_if (n == k) (record { version = v; receiver = to; body = body; round = round_in v body J }))
sent k (_ ∷ J) = sent k J

abbrev pub first_reply : ℕ → Journal → Option Reply
first_reply k [] = None
first_reply k (Delivered n r ∷ J) = or_else (first_reply k J) (only_if (n == k) r)
first_reply k (_ ∷ J) = first_reply k J

abbrev pub returned : ℕ → Journal → Bool
returned k [] = false
returned k (Returned n ∷ J) = if n == k then true else returned k J
returned k (_ ∷ J) = returned k J

abbrev pub is_answer : Reply → Bool
is_answer (Answer x names) = true
is_answer _ = false

abbrev pub Accepted : ℕ → Journal → Type 0
Accepted k [] = ⊥
Accepted k (Delivered n r ∷ J) = ((n ≡ k) × (is_answer r ≡ true)) ⊎ Accepted k J
Accepted k (_ ∷ J) = Accepted k J

-- ---- nodes

abbrev pub raised : ℕ → Option Message → ℕ → ℕ
raised n None old = old
raised n (Some m) old = if m.receiver == n then max m.version old else old

abbrev pub version : ℕ → Journal → ℕ
version n [] = 0
version n (Delivered k r ∷ J) = raised n (sent k J) (version n J)
version n (_ ∷ J) = version n J

-- what is held of a document after an accepted message
abbrev pub after_body : Id → Body → Option Stamp → Option Stamp
after_body id (Store i s) old = if same_id i id then newer (Some s) old else old
after_body id (Apply b u) old = if contains b (key_of id) then newer (u id) old else old
after_body id (Delete b s) old = if contains b (key_of id) then None else old
after_body id _ old = old

abbrev pub after_message : ℕ → Id → Reply → Option Message → Option Stamp → Option Stamp
after_message n id (Answer x names) (Some m) old = if m.receiver == n then after_body id m.body old else old
after_message n id _ _ old = old

abbrev pub store : ℕ → Id → Journal → Option Stamp
store n id [] = None
store n id (Delivered k r ∷ J) = after_message n id r (sent k J) (store n id J)
store n id (_ ∷ J) = store n id J

-- whether the piece and serial were named and nothing was accepted there since, after an accepted message
abbrev pub still : Body → (Bucket → ℕ → Bool) → Bucket → ℕ → Bool → Bool
still (Read c) names b s old = if names b s then true else old
still (Store i t) names b s old = if contains b (key_of i) then false else old
still (Apply c u) names b s old = if meets c b then false else old
still (Delete c t) names b s old = if meets c b then false else old
still (Split c) names b s old = if meets c b then false else old
still (Join c) names b s old = if meets c b then false else old
still (Ready c) names b s old = if meets c b then false else old
still (Activate c) names b s old = if meets c b then false else old
still Ask names b s old = old
still (ReadDoc i) names b s old = old

abbrev pub still_after : ℕ → Bucket → ℕ → Reply → Option Message → Bool → Bool
still_after n b s (Answer x names) (Some m) old = if m.receiver == n then still m.body names b s old else old
still_after n b s _ _ old = old

-- a Read named the piece with the serial, and nothing was accepted there since
abbrev pub acceptable : ℕ → Bucket → ℕ → Journal → Bool
acceptable n b s [] = false
acceptable n b s (Delivered k r ∷ J) = still_after n b s r (sent k J) (acceptable n b s J)
acceptable n b s (_ ∷ J) = acceptable n b s J

-- an answer of any kind named the piece with the serial
abbrev pub named_after : ℕ → Bucket → ℕ → Reply → Option Message → Bool → Bool
named_after n b s (Answer x names) (Some m) old = if m.receiver == n then (if names b s then true else old) else old
named_after n b s _ _ old = old

abbrev pub was_named : ℕ → Bucket → ℕ → Journal → Bool
was_named n b s [] = false
was_named n b s (Delivered k r ∷ J) = named_after n b s r (sent k J) (was_named n b s J)
was_named n b s (_ ∷ J) = was_named n b s J

-- and nothing was accepted there since
abbrev pub untouched : Body → (Bucket → ℕ → Bool) → Bucket → ℕ → Bool → Bool
untouched x names b s old = if names b s then true else still x names b s old

abbrev pub untouched_after : ℕ → Bucket → ℕ → Reply → Option Message → Bool → Bool
untouched_after n b s (Answer x names) (Some m) old = if m.receiver == n then untouched m.body names b s old else old
untouched_after n b s _ _ old = old

abbrev pub stands : ℕ → Bucket → ℕ → Journal → Bool
stands n b s [] = false
stands n b s (Delivered k r ∷ J) = untouched_after n b s r (sent k J) (stands n b s J)
stands n b s (_ ∷ J) = stands n b s J

-- the last Apply, Join or Delete over the key, if any, isn't a Delete
abbrev pub has_piece : ℕ → Body → Bool → Bool
has_piece key (Apply b u) old = if contains b key then true else old
has_piece key (Join b) old = if contains b key then true else old
has_piece key (Delete b s) old = if contains b key then false else old
has_piece key _ old = old

abbrev pub piece_after : ℕ → ℕ → Reply → Option Message → Bool → Bool
piece_after n key (Answer x names) (Some m) old = if m.receiver == n then has_piece key m.body old else old
piece_after n key _ _ old = old

abbrev pub holds : ℕ → ℕ → Journal → Bool
holds n key [] = false
holds n key (Delivered k r ∷ J) = piece_after n key r (sent k J) (holds n key J)
holds n key (_ ∷ J) = holds n key J

-- what a node holds, or held as it took version v
abbrev pub base : ℕ → ℕ → Id → Journal → Option Stamp
base v n id [] = None
base v n id (e ∷ J) = if nat_lt (version n (e ∷ J)) v then store n id (e ∷ J) else base v n id J

-- y is x or newer
abbrev pub Within : Id → Journal → Option Stamp → Option Stamp → Type 0
Within id J x y = Le x y

-- ---- answers that were returned

pub record Given : Type 0 where
  pub content : Content
  pub names : Bucket → ℕ → Bool

abbrev pub is_read : Body → Bool
is_read (Read b) = true
is_read _ = false

abbrev pub given_by : Reply → Option Given
given_by (Answer x names) = Some (record { content = x; names = names })
given_by _ = None

abbrev pub answer_of : ℕ → ℕ → ℕ → Option Message → Option Reply → Option Given
answer_of v r n (Some m) (Some y) = if is_read m.body then (if m.version == v then (if m.round == r then (if m.receiver == n then given_by y else None) else None) else None) else None
answer_of v r n _ _ = None

-- a node's answer in a round is the first one returned
abbrev pub answer : ℕ → ℕ → ℕ → Journal → Option Given
answer v r n [] = None
answer v r n (Returned k ∷ J) = or_else (answer v r n J) (answer_of v r n (sent k J) (first_reply k J))
answer v r n (_ ∷ J) = answer v r n J

abbrev pub is_ask : Body → Bool
is_ask Ask = true
is_ask _ = false

abbrev pub asked_of : ℕ → ℕ → Option Message → Option Reply → Option Given
asked_of v n (Some m) (Some y) = if is_ask m.body then (if m.version == v then (if m.receiver == n then given_by y else None) else None) else None
asked_of v n _ _ = None

-- a node's answer to the Asks of a version is the first one returned
abbrev pub asked : ℕ → ℕ → Journal → Option Given
asked v n [] = None
asked v n (Returned k ∷ J) = or_else (asked v n J) (asked_of v n (sent k J) (first_reply k J))
asked v n (_ ∷ J) = asked v n J

abbrev pub is_store : Id → Stamp → Body → Bool
is_store id s (Store i t) = if same_id i id then same_stamp t s else false
is_store id s _ = false

abbrev pub answers : Option Reply → Bool
answers (Some r) = is_answer r
answers None = false

abbrev pub stored_by : ℕ → Id → Stamp → ℕ → Option Message → Option Reply → Bool
stored_by v id s n (Some m) y = if m.version == v then (if m.receiver == n then (if is_store id s m.body then answers y else false) else false) else false
stored_by v id s n None y = false

-- the node answered a Store of this entry
abbrev pub answered_store : ℕ → Id → Stamp → ℕ → Journal → Bool
answered_store v id s n [] = false
answered_store v id s n (Returned k ∷ J) = if stored_by v id s n (sent k J) (first_reply k J) then true else answered_store v id s n J
answered_store v id s n (_ ∷ J) = answered_store v id s n J

-- ---- marks

-- the node didn't answer the Store
abbrev pub lacks : ℕ → Id → ℕ → Journal → Option Stamp → Bool
lacks v id n J None = false
lacks v id n J (Some s) = if answered_store v id s n J then false else true

-- whether a closed line takes the mark of a node at a key
abbrev pub takes_mark : ℕ → ℕ → ℕ → Option Beginning → Option Preparing → Journal → Bool
takes_mark v n key (Some b) (Some p) J = if b.version == v then (if contains p.row key then lacks v b.id n J b.stamp else false) else false
takes_mark v n key _ _ J = false

abbrev pub complete : ℕ → ℕ → ℕ → Journal → Bool
complete v n key [] = false
complete v n key (Decided d w (RoundEnded b set) ∷ J) = if w == v then (if contains b key then (if set n then true else complete v n key J) else complete v n key J) else complete v n key J
complete v n key (Decided d w (RowsJoined p) ∷ J) = if w == v then (if contains p key then (if complete v n key J then complete v n (across p key) J else false) else complete v n key J) else complete v n key J
complete v n key (Decided d w (DeleteFrom b m s) ∷ J) = if w == v then (if contains b key then (if m == n then false else complete v n key J) else complete v n key J) else complete v n key J
complete v n key (Closed l true ∷ J) = if takes_mark v n key (began l J) (prepared l J) J then false else complete v n key J
complete v n key (Closed l false ∷ J) = complete v n key J
complete v n key (_ ∷ J) = complete v n key J

abbrev pub active : ℕ → ℕ → Journal → Option ℕ
active v key [] = None
active v key (Decided d w (ActiveOn b n) ∷ J) = if w == v then (if contains b key then Some n else active v key J) else active v key J
active v key (_ ∷ J) = active v key J

pub record Deleting : Type 0 where
  pub bucket : Bucket
  pub node : ℕ
  pub serial : ℕ

abbrev pub ends : Bucket → ℕ → Option Deleting → Option Deleting
ends b n None = None
ends b n (Some d) = if same_bucket d.bucket b then (if d.node == n then None else Some d) else Some d

-- the unanswered Delete of the key's row
abbrev pub deleting : ℕ → ℕ → Journal → Option Deleting
deleting v key [] = None
deleting v key (Decided d w (DeleteFrom b n s) ∷ J) = if w == v then (if contains b key then Some (record { bucket = b; node = n; serial = s }) else deleting v key J) else deleting v key J
deleting v key (Decided d w (RowsJoined p) ∷ J) = if w == v then (if contains p key then or_else (deleting v key J) (deleting v (across p key) J) else deleting v key J) else deleting v key J
deleting v key (Decided d w (DeleteOver b n) ∷ J) = if w == v then ends b n (deleting v key J) else deleting v key J
deleting v key (_ ∷ J) = deleting v key J

-- ---- what was decided and acknowledged

-- a DeleteFrom of v over the key named the node, when r or more rounds were begun
abbrev pub Named : ℕ → ℕ → ℕ → ℕ → Journal → Type 0
Named v n key r [] = ⊥
Named v n key r (Decided d w (DeleteFrom b m s) ∷ J) = ((w ≡ v) × (m ≡ n) × (contains b key ≡ true) × (r ≤ rounds v J)) ⊎ Named v n key r J
Named v n key r (_ ∷ J) = Named v n key r J

-- a DeleteFrom with this content, when r rounds were begun
abbrev pub DeletedFrom : ℕ → Bucket → ℕ → ℕ → ℕ → Journal → Type 0
DeletedFrom v b n s r [] = ⊥
DeletedFrom v b n s r (Decided d w (DeleteFrom c m t) ∷ J) = ((w ≡ v) × (c ≡ b) × (m ≡ n) × (t ≡ s) × (r ≡ rounds v J)) ⊎ DeletedFrom v b n s r J
DeletedFrom v b n s r (_ ∷ J) = DeletedFrom v b n s r J

abbrev pub AckedBy : ℕ → Id → Stamp → Option Beginning → Type 0
AckedBy v id s None = ⊥
AckedBy v id s (Some b) = (b.version ≡ v) × (b.id ≡ id) × (b.stamp ≡ Some s)

-- acknowledged at v
abbrev pub Acked : ℕ → Id → Stamp → Journal → Type 0
Acked v id s [] = ⊥
Acked v id s (Closed l true ∷ J) = AckedBy v id s (began l J) ⊎ Acked v id s J
Acked v id s (Closed l false ∷ J) = Acked v id s J
Acked v id s (_ ∷ J) = Acked v id s J
