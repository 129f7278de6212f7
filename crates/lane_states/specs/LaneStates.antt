-- The fields of a lane, and what its calls say of them.
use Rattle.std.specs.Prelude.{◌≡◌, ◌≤◌, ◌<◌, ◌+◌, ◌^◌, ℕ, Bool, false, List, [], ◌∷◌, ◌++◌, length, Option, None, vec_len, vec_capacity}
use Rattle.std.specs.VecDeque.{deque_len, deque_capacity}
use Rattle.bucket_ids.specs.Buckets.{Low}
use Rattle.node_sets.specs.Members.{has_node}
use Rattle.cluster_states.specs.declared.cluster_state.ClusterState.{ClusterState}
use Rattle.messages.specs.declared.message.Message.{Message}
use Rattle.node_model.specs.Nodes.{Node}
use Rattle.view_changes.specs.declared.change.LaneChange.{LaneChange}
use Rattle.distributor_part.specs.declared.rules.Rules.{Rules}
use Rattle.distributor_part.specs.declared.stage.Stage.TheVariants.{Before}
use Rattle.distributor_part.specs.Parts.{Part}
use Rattle.lane_journals.specs.Readers.{stopped}
use Rattle.lane_journals.specs.Meanings.{history}
use Rattle.lane_journals.specs.KeptJournals.{past}
use Rattle.lane_journals.specs.declared.event.LaneEvent.{LaneEvent}
use Rattle.carriers.specs.declared.fate.Fate.{Fate}
use Rattle.messages.specs.Waiting.{Each, NoneIsDue}
use Rattle.messages.specs.declared.late.Late.{Late}
use Rattle.lane_keeping.specs.Flights.{IsInFlight}
use Rattle.lane_keeping.specs.Replaying.{sending}
use Rattle.lane_keeping.specs.Spans.{NodesGo}
use Rattle.lane_carriage.specs.Carriage.{IsDealt}
use Rattle.lane_carriage.specs.Waits.{kept_by}
use Rattle.lane_states.specs.Accepting.{AreAccepted}
use Rattle.lane_carriage.specs.Carrying.{met_at, DeliversSome, AreCarried}
use Rattle.lane_states.specs.Told.{Log, Tells, IsTold, handed_in}
use Rattle.lane_states.specs.declared.lane_state.LaneState.{LaneState}
use Rattle.lane_keeping.specs.LaneKeeping.{node_in, part_in, Keeps}
use Rattle.lane_keeping.specs.Asking.{IsAsking}

-- what a lane is set up with lies within the limits
pub record IsSetUp (lane : Low) (rules : Rules) : Type 0 where
  pub some : 1 ≤ lane.bits
  pub most : lane.bits ≤ 6
  pub fits : lane.low < 2 ^ lane.bits
  pub acked : 1 ≤ rules.acks
  pub enough : rules.acks ≤ rules.redundancy
  pub few : rules.redundancy ≤ 8
  pub searched : rules.searchable ≤ rules.redundancy

abbrev pub journal_of : LaneState → List LaneEvent
journal_of c = past c.journal.events.items

-- a late message is on its way to a node that is there
pub record IsComing (J : List LaneEvent) (nodes : List Node) (l : Late) : Type 0 where
  pub flight : IsInFlight J l.number l.message
  pub there : l.message.receiver < length nodes

-- these nodes are stopped, and no others
abbrev pub AreStopped : (ℕ → Bool) → ℕ → Type 0
AreStopped is_stopped stops = (n : ℕ) → is_stopped n ≡ has_node stops n

-- the lane's bucket is one of a lane, nodes and parts are what the journal says, late messages are on their way, each
-- message has an event, so that the next number finds room where the journal has some, it is known who is stopped, rows
-- that are said to have been accepted were, and the changes are counted and kept
pub record IsKeptBy (lane : Low) (rules : Rules) (J : List LaneEvent) (newest : Option ClusterState) (last : ℕ) (nodes : List Node) (parts : List Part) (late : List Late) (stops : ℕ) (t : Tells) : Type 0 where
  pub small : lane.bits ≤ 6
  pub keeps : Keeps lane rules J newest last nodes parts
  pub coming : Each (IsComing J nodes) late
  pub counted : last ≤ length J
  pub stops_are : AreStopped (λ n. stopped n (history J)) stops
  pub accepted : AreAccepted lane rules J parts
  pub told_is : IsTold J t

-- what it keeps of the changes of its view
abbrev pub log_of : LaneState → Log
log_of c = record { told = c.journal.told; kept = c.journal.kept.items; lists = deque_len c.journal.kept; places = deque_capacity c.journal.kept; turn_room = c.turn_room }

-- those that it handed over to a shelf
abbrev pub handed_of : LaneState → List LaneChange
handed_of c = handed_in (past c.handed.value.events.items) c.handed.value.kept.items

abbrev pub tells_of : LaneState → Tells
tells_of c = record { log = log_of c; handed = handed_of c }

-- with these parts in the place of its own, and with its own
abbrev pub IsKeptWith : List Part → LaneState → Type 0
IsKeptWith parts c = IsKeptBy c.lane c.rules (journal_of c) c.newest c.last c.nodes.items parts c.late.late c.stopped (tells_of c)

abbrev pub IsKept : LaneState → Type 0
IsKept c = IsKeptWith c.parts.items c

-- with some parts
abbrev pub IsKeptWithSome : LaneState → Type 0
IsKeptWithSome c = (parts : List Part) × IsKeptWith parts c

-- with whatever parts it was kept, it still is
abbrev pub StaysKept : LaneState → LaneState → Type 0
StaysKept c e = (parts : List Part) → IsKeptWith parts c → IsKeptWith parts e

-- the node runs
abbrev pub Receives : LaneState → ℕ → Type 0
Receives c n = has_node c.stopped n ≡ false

-- so many events more find room, and those for which there always is
abbrev pub HasRoom : ℕ → LaneState → Type 0
HasRoom many c = vec_len c.journal.events + many + c.spare ≤ vec_capacity c.journal.events

-- so many lists of changes more find a place, and that of a stop or a start behind them
abbrev pub HasPlaces : ℕ → LaneState → Type 0
HasPlaces many c = deque_len c.journal.kept + many + 1 ≤ deque_capacity c.journal.kept

-- the part of a distributor
abbrev pub part_of : LaneState → ℕ → Part
part_of c d = part_in c.lane c.rules c.parts.items d

-- no job of the distributor is under way
pub record IsResting (p : Part) : Type 0 where
  pub unasked : p.asked ≡ 0
  pub told : p.awaited ≡ None
  pub no_round : p.stage ≡ Before

abbrev pub AreResting : LaneState → Type 0
AreResting c = (d : ℕ) → IsResting (part_of c d)

-- the distributor is about to send the message
abbrev pub Asks : LaneState → ℕ → Message → Type 0
Asks c d m = IsAsking c.lane d (part_of c d) m

-- ---- the carrier

abbrev pub IsCarriedBy : LaneState → List Fate → Type 0
IsCarriedBy c given = AreCarried given (journal_of c) c.last c.late.late

-- the carrier gave what it gave before, and perhaps more behind it
abbrev pub GivesOn : List Fate → List Fate → Type 0
GivesOn given now = (more : List Fate) × (now ≡ given ++ more)

-- each message still had just the events of its fate
abbrev pub StaysCarried : LaneState → LaneState → Type 0
StaysCarried old new = (given : List Fate) → IsCarriedBy old given → IsCarriedBy new given

-- ---- what a call leaves

-- the nodes go through just the deliveries by which the journal grew
abbrev pub NodesOn : LaneState → LaneState → Type 0
NodesOn c e = NodesGo (journal_of c) (node_in c.nodes.items) (journal_of e) (node_in e.nodes.items)

-- nothing happened in the lane
pub record Stays (c e : LaneState) : Type 0 where
  pub journal : journal_of e ≡ journal_of c
  pub late : e.late.late ≡ c.late.late
  pub last : e.last ≡ c.last
  pub parts : (d : ℕ) → part_of e d ≡ part_of c d

-- a message was sent with the next number and dealt with by the fate that the carrier gave it, as its receiver ran or
-- was stopped, and the late ones that were due then were given out
pub record Went (c e : LaneState) (m : Message) (given now : List Fate) : Type 0 where
  pub fate : Fate
  pub fates : now ≡ given ++ fate ∷ []
  pub next : e.last ≡ c.last + 1
  -- the journal once it was dealt with
  pub between : List LaneEvent
  pub dealt : IsDealt (met_at (journal_of c) m fate) (c.last + 1) (sending (c.last + 1) m ∷ journal_of c) between
  pub late : DeliversSome (c.last + 1) (kept_by fate (c.last + 1) m c.late.late) e.late.late between (journal_of e)
  pub none_left : NoneIsDue (c.last + 1) e.late.late
