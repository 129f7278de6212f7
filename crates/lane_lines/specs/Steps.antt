-- What an operation that is prepared does in a lane, message by message.
use Rattle.std.specs.Prelude.{◌≡◌, ◌⊎◌, ◌++◌, ℕ, Bool, true, List, [], ◌∷◌, Option, is_some}
use Rattle.bucket_ids.specs.Buckets.{Low}
use Rattle.cluster_states.specs.declared.cluster_state.ClusterState.{ClusterState}
use Rattle.carriers.specs.declared.fate.Fate.{Fate}
use Rattle.documents.specs.declared.entry.Entry.{Entry}
use Rattle.messages.specs.declared.body.Body.{Body}
use Rattle.messages.specs.declared.body.Body.TheVariants as body
use Rattle.messages.specs.declared.message.Message.{Message}
use Rattle.messages.specs.declared.reply.Reply.{Reply}
use Rattle.op_machine.specs.declared.plan.Plan.{Plan}
use Rattle.op_machine.specs.declared.machine.Standing.{Standing}
use Rattle.op_machine.specs.Outcomes.{Asks}
use Rattle.op_machine.specs.Standings.{next_at, IsAnswered}
use Rattle.distributor_part.specs.declared.rules.Rules.{Rules}
use Rattle.lane_journals.specs.Readers.{Journal, stamps_of, running}
use Rattle.lane_journals.specs.Meanings.{history}
use Rattle.lane_journals.specs.declared.event.LaneEvent.{LaneEvent}
use Rattle.lane_keeping.specs.Acting.{IsActing}
use Rattle.operation_keeping.specs.OperationKeeping.{IsUnderWay, KnowsAsked}
use Rattle.lane_states.specs.declared.lane_state.LaneState.{LaneState}
use Rattle.lane_states.specs.LaneStates.{journal_of}
use Rattle.lane_keeping.specs.Tidings.{last_state}
use Rattle.operation_keeping.specs.Wants.{IsAtStanding, IsRunSince}
use Rattle.lane_lines.specs.Readying.{HasSent}

-- the distributor that sends the operation's messages
abbrev pub sender_of : Standing → ℕ
sender_of t = t.plan.origin.sender

-- the operation of the plan is under way at the owner
pub record IsGoing (lane : Low) (J : List LaneEvent) (line : ℕ) (p : Plan) : Type 0 where
  pub state : ClusterState
  pub acting : IsActing lane J p.origin.sender state
  pub under_way : IsUnderWay lane (history J) p.origin.sender state line p.operation p.stamp

-- the machine stands as the journal says
pub record IsStanding (lane : Low) (rules : Rules) (J : List LaneEvent) (line : ℕ) (row : Low) (written : Bool) (t : Standing) : Type 0 where
  pub state : ClusterState
  pub acting : IsActing lane J (sender_of t) state
  pub entry : Option Entry
  pub stands : IsAtStanding lane rules J line t.plan.operation (sender_of t) state row entry t
  pub written_is : written ≡ is_some entry

-- and awaits the answer to the message that came next, which was sent with the number
pub record IsAwaiting (lane : Low) (rules : Rules) (J : List LaneEvent) (line : ℕ) (row : Low) (written : Bool) (t : Standing) (number : ℕ) (m : Message) : Type 0 where
  pub state : ClusterState
  pub acting : IsActing lane J (sender_of t) state
  pub entry : Option Entry
  pub asked : KnowsAsked lane rules J (sender_of t) state line row entry t number m
  pub written_is : written ≡ is_some entry

-- ---- in a lane

abbrev pub StandsIn : LaneState → ℕ → Low → Bool → Standing → Type 0
StandsIn c line row written t = IsStanding c.lane c.rules (journal_of c) line row written t

-- the journal grew by what the operation wants, whatever journal one looks back to
abbrev pub RunsIn : LaneState → LaneState → ℕ → Standing → Type 0
RunsIn c e line t = (from : Journal) → HasSent from (journal_of c) → IsRunSince c.lane c.rules line t.plan.operation from (journal_of c) (journal_of e)

-- it stands in some row
pub record IsPreparedIn (c : LaneState) (line : ℕ) (written : Bool) (t : Standing) : Type 0 where
  pub row : Low
  pub stands : StandsIn c line row written t

-- a Store is sent once its entry is written
abbrev pub IsReady : Bool → Body → Type 0
IsReady written (body.Store entry) = written ≡ true
IsReady written _ = Unit {0}

-- the message comes next, and perhaps its entry before it
pub record IsToWrite (c : LaneState) (line : ℕ) (written : Bool) (m : Message) : Type 0 where
  pub standing : Standing
  pub row : Low
  pub stands : StandsIn c line row written standing
  pub next : next_at standing ≡ Asks m

-- it comes next, and its entry is written
pub record IsToSend (c : LaneState) (m : Message) : Type 0 where
  pub line : ℕ
  pub written : Bool
  pub to_write : IsToWrite c line written m
  pub ready : IsReady written m.body

abbrev pub GoesIn : LaneState → ℕ → Plan → Type 0
GoesIn c line p = IsGoing c.lane (journal_of c) line p

-- whatever row it stands in, it does so after the call
abbrev pub StandsOn : LaneState → LaneState → ℕ → Bool → Bool → Standing → Standing → Type 0
StandsOn c e line written now t x = (row : Low) → StandsIn c line row written t → StandsIn e line row now x

-- and the same with any machine whose message comes next, by which the journal grows
abbrev pub WritesOn : LaneState → LaneState → ℕ → Bool → Bool → Message → Type 0
WritesOn c e line written now m = (row : Low) (t : Standing) → next_at t ≡ Asks m → StandsIn c line row written t → StandsIn e line row now t × RunsIn c e line t

-- the message that comes next is sent: the journal grows by what the operation wants, and it stays under way
abbrev pub SendsIn : LaneState → LaneState → Message → Standing → Type 0
SendsIn c e m t = (line : ℕ) (row : Low) (written : Bool) → IsReady written m.body → StandsIn c line row written t → RunsIn c e line t × GoesIn e line t.plan

-- and the answer is told
abbrev pub SentIn : LaneState → LaneState → Message → Standing → Standing → Type 0
SentIn c e m t x = (line : ℕ) (row : Low) (written : Bool) → IsReady written m.body → StandsIn c line row written t → StandsIn e line row written x

-- the machine is told the answer to the message that comes next, or that none came
abbrev pub IsStandingTold : Message → Standing → Standing → Type 0
IsStandingTold m t x = (y : Option Reply) × IsAnswered m.receiver y t x

abbrev pub TellsOne : Standing → Standing → Type 0
TellsOne t x = (m : Message) × (next_at t ≡ Asks m) × IsStandingTold m t x

-- the carrier gave one fate more, or one at most
abbrev pub GivesOne : List Fate → List Fate → Type 0
GivesOne given now = (fate : Fate) × (now ≡ given ++ fate ∷ [])

abbrev pub GivesFew : List Fate → List Fate → Type 0
GivesFew given now = (now ≡ given) ⊎ GivesOne given now

-- no state is published, no stamp drawn, no round begun or ended
pub record IsUneventful (J K : List LaneEvent) : Type 0 where
  pub newest : last_state K ≡ last_state J
  pub counted : (v : ℕ) → stamps_of v (history K) ≡ stamps_of v (history J)
  pub rounds : (v : ℕ) (b : Low) → running v b (history K) ≡ running v b (history J)
