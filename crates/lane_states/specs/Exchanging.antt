-- One exchange of a message: it is sent and dealt with by its fate, and perhaps its reply comes back.
use Rattle.std.specs.Prelude.{◌≡◌, ◌<◌, ◌⊎◌, ℕ, ◌+◌, false, List, ◌∷◌, length, Option, None, Some}
use Rattle.carriers.specs.declared.fate.Fate.{Fate}
use Rattle.messages.specs.declared.message.Message.{Message}
use Rattle.messages.specs.declared.noted.NotedReply.{NotedReply}
use Rattle.messages.specs.declared.reply.Reply.{Reply}
use Rattle.node_model.specs.Nodes.{Node}
use Rattle.distributor_part.specs.Parts.{Part}
use Rattle.lane_journals.specs.Readers.{stopped}
use Rattle.lane_journals.specs.Meanings.{history, entry_at}
use Rattle.lane_journals.specs.KeptJournals.{IsLegalStep}
use Rattle.lane_journals.specs.declared.event.LaneEvent.{LaneEvent}
use Rattle.lane_journals.specs.declared.event.LaneEvent.TheVariants.{Delivered, Returned}
use Rattle.lane_keeping.specs.Flights.{Brings, IsWhole}
use Rattle.lane_keeping.specs.Replaying.{sending, delivered}
use Rattle.lane_keeping.specs.LaneKeeping.{setting_of}
use Rattle.lane_keeping.specs.Asking.{IsTakenBy, IsToldTo}
use Rattle.lane_keeping.specs.Laws.{IsNoAsk, IsSentNext}
use Rattle.lane_states.specs.declared.lane_state.LaneState.{LaneState}
use Rattle.lane_states.specs.LaneStates.{journal_of, Went, Asks, IsKeptWith}

-- the Ask of a distributor whose part is there
pub record IsAskOf (c : LaneState) (m : Message) : Type 0 where
  pub distributor : ℕ
  pub asks : Asks c distributor m
  pub there : distributor < length c.parts.items
  pub small : m.receiver < 32

-- the message may be sent with the next number: its entries are those that were written, and it is whole; an Ask is
-- that of a distributor
pub record MayBeSent (c : LaneState) (m : Message) : Type 0 where
  pub legal : IsLegalStep (setting_of c.lane c.rules) (journal_of c) (sending (c.last + 1) m)
  pub brings : Brings (λ t. entry_at t (journal_of c)) m.body
  pub whole : IsWhole m.body
  pub asker : IsNoAsk m.body ⊎ IsAskOf c m

-- the journal grew by deliveries alone
pub data OnlyDelivers (J : List LaneEvent) : List LaneEvent → Type 0 where
  Nothing : OnlyDelivers J J
  Delivery : (number : ℕ) (r : NotedReply) (K : List LaneEvent) → OnlyDelivers J K → OnlyDelivers J (Delivered number r ∷ K)

-- the message, to which nothing had happened, was taken by its node, which runs, and its reply was returned; then
-- messages were delivered, and perhaps it once more
pub record IsBroughtBack (J : List LaneEvent) (nodes : List Node) (number : ℕ) (m : Message) (r : Reply) (K : List LaneEvent) : Type 0 where
  pub runs : stopped m.receiver (history J) ≡ false
  pub now : List Node
  pub taken : IsTakenBy nodes now m r
  pub delivers : OnlyDelivers (Returned number ∷ delivered number r ∷ J) K

-- the same where a reply came; where none did messages were delivered, and perhaps it too
abbrev pub Brought : List LaneEvent → List Node → ℕ → Message → Option Reply → List LaneEvent → Type 0
Brought J nodes number m None K = OnlyDelivers J K
Brought J nodes number m (Some r) K = IsBroughtBack J nodes number m r K

-- the message was sent with the next number, and this came back of it
pub record Exchanged (c e : LaneState) (m : Message) (given now : List Fate) (reply : Option Reply) : Type 0 where
  pub went : Went c e m given now
  -- the journal right behind its sending
  pub sent : IsSentNext c.lane c.rules (journal_of c) c.newest c.last c.nodes.items c.parts.items m
  pub brought : Brought (sending (c.last + 1) m ∷ journal_of c) c.nodes.items (c.last + 1) m reply (journal_of e)

-- ---- parts that are told

-- the part of the distributor that asked is told the reply
pub record IsAskerTold (c : LaneState) (m : Message) (r : Reply) (parts : List Part) : Type 0 where
  pub distributor : ℕ
  pub asks : Asks c distributor m
  pub told : IsToldTo c.lane c.rules c.parts.items parts distributor m.receiver r

-- the reply to an Ask is told, and no other
abbrev pub AreTold : LaneState → Message → Reply → List Part → Type 0
AreTold c m r parts = (IsNoAsk m.body × (parts ≡ c.parts.items)) ⊎ IsAskerTold c m r parts

-- where a reply came the lane is kept with the parts that are told it, else with those that it had
abbrev pub IsKeptBack : LaneState → Message → Option Reply → LaneState → Type 0
IsKeptBack c m None e = IsKeptWith c.parts.items e
IsKeptBack c m (Some r) e = (parts : List Part) → AreTold c m r parts → IsKeptWith parts e
