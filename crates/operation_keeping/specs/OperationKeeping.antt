-- What is known of an operation that is under way: what it began, whom it asked and what was answered, as the journal
-- says. What an event can't touch is a record over what readers read.
use Rattle.std.specs.Prelude.{◌≡◌, ◌≢◌, ◌↔◌, ◌<◌, ◌^◌, ℕ, Bool, true, false, List, Option, None, Some}
use Rattle.bucket_ids.specs.Buckets.{Low}
use Rattle.node_sets.specs.Members.{has_node}
use Rattle.stamps.specs.declared.stamp.Stamp.{Stamp}
use Rattle.cluster_states.specs.declared.cluster_state.ClusterState.{ClusterState}
use Rattle.cluster_states.specs.Publishing.{serves}
use Rattle.documents.specs.declared.entry.Entry.{Entry}
use Rattle.messages.specs.declared.body.Body.{Body}
use Rattle.messages.specs.declared.body.Body.TheVariants as body
use Rattle.messages.specs.declared.message.Message.{Message}
use Rattle.messages.specs.declared.operation.Operation.{Operation}
use Rattle.op_machine.specs.declared.plan.Plan.{Plan}
use Rattle.op_machine.specs.declared.machine.Standing.{Standing}
use Rattle.op_machine.specs.Judging.{looks}
use Rattle.op_machine.specs.Outcomes.{Answers, answers_of, Asks}
use Rattle.op_machine.specs.Plans.{IsPlan, IsPlainGet}
use Rattle.op_machine.specs.Standings.{due_entry, next_at}
use Rattle.distributor_part.specs.declared.rules.Rules.{Rules}
use Rattle.lane_journals.specs.Stamps.{Le}
use Rattle.lane_journals.specs.Buckets.{contains, key_of}
use Rattle.lane_journals.specs.Events.{Content, ReadDoc, Store, Reply, NoMemory}
use Rattle.lane_journals.specs.Readers as readers
use Rattle.lane_journals.specs.Readers.{Journal, Beginning, Preparing, began, prepared, wrote, closed, opened, row_at, complete, active, answered_store, before_line, sent, first_reply, returned}
use Rattle.lane_journals.specs.Facts.{ReadBack}
use Rattle.lane_journals.specs.Meanings.{history, entry_at}
use Rattle.lane_journals.specs.declared.event.LaneEvent.{LaneEvent}
use Rattle.lane_keeping.specs.NodeKeeping.{stamp_of}
use Rattle.lane_keeping.specs.Flights.{IsInFlight}

-- ---- operations

abbrev pub beginning_of : ℕ → ClusterState → Operation → Option Stamp → Beginning
beginning_of d s o stamp = record { distributor = d; version = s.version; id = o.id; stamp = stamp }

pub record IsOpenLine (lane : Low) (d : ℕ) (s : ClusterState) (line : ℕ) (o : Operation) (stamp : Option Stamp) (begun : ℕ → Option Beginning) (is_closed : ℕ → Bool) : Type 0 where
  pub begun_as : begun line ≡ Some (beginning_of d s o stamp)
  pub unclosed : is_closed line ≡ false
  pub in_lane : contains lane (key_of o.id) ≡ true

-- the line's operation is under way at the distributor
abbrev pub IsUnderWay : Low → Journal → ℕ → ClusterState → ℕ → Operation → Option Stamp → Type 0
IsUnderWay lane H d s line o stamp = IsOpenLine lane d s line o stamp (λ l. began l H) (λ l. closed l H)

pub record IsPreparing (under_way : Type 0) (preparing : Option Preparing) (has_written : Bool) : Type 0 where
  pub is_under_way : under_way
  pub unprepared : preparing ≡ None
  pub unwritten : has_written ≡ false

-- and it isn't prepared yet
abbrev pub KnowsPreparing : Low → Journal → ℕ → ClusterState → ℕ → Operation → Option Stamp → Type 0
KnowsPreparing lane H d s line o stamp = IsPreparing (IsUnderWay lane H d s line o stamp) (prepared line H) (wrote line H)

-- ---- the plan

-- the operation is prepared in the row of its key, for the row's complete members, which serve
pub record IsPlanned (lane : Low) (rules : Rules) (d : ℕ) (s : ClusterState) (row : Low) (under_way : Type 0) (preparing : Option Preparing) (is_open : Bool) (row_of : ℕ → Option Low)
    (complete_at : ℕ → ℕ → Bool) (active_at : ℕ → Option ℕ) (p : Plan) : Type 0 where
  pub origin_is : p.origin ≡ record { version = s.version; lane = lane.low; sender = d }
  pub acks_are : p.acks ≡ rules.acks
  pub is_plan : IsPlan p
  pub plain : IsPlainGet p.operation
  pub is_under_way : under_way
  pub prepared_as : preparing ≡ Some (record { row = row; recipients = λ n. has_node p.recipients n })
  pub fits : row.low < 2 ^ row.bits
  pub opened_is : is_open ≡ true
  pub row_is : (key : ℕ) → contains row key ≡ true → row_of key ≡ Some row
  pub inside : contains row (key_of p.operation.id) ≡ true
  -- others that are acknowledged meanwhile take marks
  pub members : (n key : ℕ) → contains row key ≡ true → complete_at n key ≡ true → has_node p.recipients n ≡ true
  pub active_is : (key : ℕ) → contains row key ≡ true → active_at key ≡ p.active
  pub serving : (n : ℕ) → has_node p.recipients n ≡ true → serves s n ≡ true

abbrev pub KnowsPlan : Low → Rules → Journal → ℕ → ClusterState → ℕ → Low → Plan → Type 0
KnowsPlan lane rules H d s line row p = IsPlanned lane rules d s row (IsUnderWay lane H d s line p.operation p.stamp) (prepared line H) (opened s.version H)
    (λ key. row_at s.version key H) (λ n key. complete s.version n key H) (λ key. active s.version key H) p

-- ---- answers

-- any message but the one that is awaited, of which nothing is told yet
abbrev pub IsOther : Option ℕ → ℕ → Type 0
IsOther None number = Unit {0}
IsOther (Some awaited) number = number ≢ awaited

-- a Read of the line's document was sent to the node since the line began
pub record WasRead (H : Journal) (awaited : Option ℕ) (line : ℕ) (begin : Beginning) (n : ℕ) : Type 0 where
  pub number : ℕ
  pub other : IsOther awaited number
  pub message : readers.Message
  pub was_sent : sent number H ≡ Some message
  pub later : sent number (before_line line H) ≡ None
  pub receiver : message.receiver ≡ n
  pub version : message.version ≡ begin.version
  pub body : message.body ≡ ReadDoc begin.id

-- and a Store of what it wrote
pub record WasStored (H : Journal) (awaited : Option ℕ) (begin : Beginning) (n : ℕ) : Type 0 where
  pub stamp : Stamp
  pub stamped : begin.stamp ≡ Some stamp
  pub number : ℕ
  pub other : IsOther awaited number
  pub message : readers.Message
  pub was_sent : sent number H ≡ Some message
  pub receiver : message.receiver ≡ n
  pub version : message.version ≡ begin.version
  pub body : message.body ≡ Store begin.id stamp

-- a message that passes a test was sent since an earlier journal, and this reply to it came back
pub record CameSince (from H : Journal) (test : readers.Message → Type 0) (y : Reply) : Type 0 where
  pub number : ℕ
  pub message : readers.Message
  pub was_sent : sent number H ≡ Some message
  pub later : sent number from ≡ None
  pub tested : test message
  pub reply : first_reply number H ≡ Some y
  pub back : returned number H ≡ true

-- since the line began
abbrev pub CameBack : Journal → ℕ → (readers.Message → Type 0) → Reply → Type 0
CameBack H line test y = CameSince (before_line line H) H test y

-- its node wanted memory
abbrev pub WasShortSince : Journal → Journal → (readers.Message → Type 0) → Type 0
WasShortSince from H test = CameSince from H test NoMemory

abbrev pub WasShort : Journal → ℕ → (readers.Message → Type 0) → Type 0
WasShort H line test = CameBack H line test NoMemory

-- the Reads of what was begun, and its Stores
abbrev pub IsReadOf : Beginning → readers.Message → Type 0
IsReadOf b m = (m.version ≡ b.version) × (m.body ≡ ReadDoc b.id)

abbrev pub IsStoreOf : Beginning → readers.Message → Type 0
IsStoreOf b m = (m.version ≡ b.version) × ((stamp : Stamp) × (b.stamp ≡ Some stamp) × (m.body ≡ Store b.id stamp))

-- what was told of the Reads: whom it asked, who answered, whether one wanted memory, and the newest entry that was shown
pub record KnowsReads (J : List LaneEvent) (awaited : Option ℕ) (line : ℕ) (begin : Beginning) (a : Answers) : Type 0 where
  pub told : (n : ℕ) → (a.told n ≡ true) ↔ WasRead (history J) awaited line begin n
  pub answered : (n : ℕ) → (a.answered n ≡ true) ↔ ((content : Content) × ReadBack n line begin content (history J))
  pub short : (a.short ≡ true) ↔ WasShort (history J) line (IsReadOf begin)
  pub newest : (n : ℕ) (content : Content) → ReadBack n line begin content (history J) → Le (content begin.id) (stamp_of a.seen)
  pub shown : (s : Stamp) → stamp_of a.seen ≡ Some s → (n : ℕ) × (content : Content) × ReadBack n line begin content (history J) × (content begin.id ≡ Some s)
  pub written : (e : Entry) → a.seen ≡ Some e → (e.id ≡ begin.id) × (entry_at e.stamp J ≡ Some e)

-- and of the Stores
pub record KnowsStores (H : Journal) (awaited : Option ℕ) (line : ℕ) (begin : Beginning) (a : Answers) : Type 0 where
  pub told : (n : ℕ) → (a.told n ≡ true) ↔ WasStored H awaited begin n
  pub answered : (n : ℕ) (stamp : Stamp) → begin.stamp ≡ Some stamp → a.answered n ≡ answered_store begin.version begin.id stamp n H
  pub unstamped : (n : ℕ) → begin.stamp ≡ None → a.answered n ≡ false
  pub short : (a.short ≡ true) ↔ WasShort H line (IsStoreOf begin)

-- nothing is written before the Reads are over; then the entry that is due is the line's
abbrev pub KnowsEntry : List LaneEvent → ℕ → Standing → Option Entry → Type 0
KnowsEntry J line t None = wrote line (history J) ≡ false
KnowsEntry J line t (Some e) = (wrote line (history J) ≡ true) × (due_entry t.plan (answers_of t.reads) ≡ Some e) × (entry_at e.stamp J ≡ Some e)

-- ---- the operation that is prepared

-- what the machine was told is what the journal shows, one message that is awaited aside
pub record KnowsStanding (lane : Low) (rules : Rules) (J : List LaneEvent) (d : ℕ) (s : ClusterState) (line : ℕ) (row : Low) (written : Option Entry) (awaited : Option ℕ) (t : Standing) : Type 0 where
  pub plan : KnowsPlan lane rules (history J) d s line row t.plan
  pub entry : KnowsEntry J line t written
  -- only an operation that looks at its document sends Reads
  pub looking : (n : ℕ) → has_node t.reads.told n ≡ true → looks t.plan.operation ≡ true
  pub reads : KnowsReads J awaited line (beginning_of d s t.plan.operation t.plan.stamp) (answers_of t.reads)
  pub stores : KnowsStores (history J) awaited line (beginning_of d s t.plan.operation t.plan.stamp) (answers_of t.stores)

-- nothing is awaited
abbrev pub KnowsOperation : Low → Rules → List LaneEvent → ℕ → ClusterState → ℕ → Low → Option Entry → Standing → Type 0
KnowsOperation lane rules J d s line row written t = KnowsStanding lane rules J d s line row written None t

-- the entry of a Store is written
abbrev pub HasWritten : Option Entry → Body → Type 0
HasWritten written (body.Store e) = written ≡ Some e
HasWritten written _ = Unit {0}

-- the message that came next was sent with the number, and its answer is awaited
pub record KnowsAsked (lane : Low) (rules : Rules) (J : List LaneEvent) (d : ℕ) (s : ClusterState) (line : ℕ) (row : Low) (written : Option Entry) (t : Standing) (number : ℕ) (m : Message) : Type 0 where
  pub known : KnowsStanding lane rules J d s line row written (Some number) t
  pub next : next_at t ≡ Asks m
  pub flight : IsInFlight J number m
  pub later : sent number (before_line line (history J)) ≡ None
