-- How the owner's part opens its state: the steps of the part, and the events that they add.
use Rattle.std.specs.Prelude.{◌≡◌, ◌||◌, ◌+◌, ℕ, Bool, false, List, ◌∷◌, Option, None, Some}
use Rattle.bucket_ids.specs.Buckets.{Low}
use Rattle.carriers.specs.declared.fate.Fate.{Fate}
use Rattle.messages.specs.Noting.{noted_reply}
use Rattle.messages.specs.declared.message.Message.{Message}
use Rattle.messages.specs.declared.reply.Reply.{Reply}
use Rattle.distributor_part.specs.declared.rules.Rules.{Rules}
use Rattle.distributor_part.specs.declared.stage.Stage.TheVariants.{Before}
use Rattle.distributor_part.specs.Parts.{Part, IsOwning}
use Rattle.distributor_part.specs.Steps as steps
use Rattle.distributor_part.specs.Steps.{Opens, LacksAnswers, without_end}
use Rattle.lane_journals.specs.declared.event.LaneEvent.{LaneEvent}
use Rattle.lane_journals.specs.declared.event.LaneEvent.TheVariants.{Opened}
use Rattle.lane_keeping.specs.Replaying.{sending}
use Rattle.lane_carriage.specs.Carriage.{IsDealt, AreDelivered}
use Rattle.lane_keeping.specs.LaneKeeping.{PartKeeps}
use Rattle.lane_states.specs.declared.lane_state.LaneState.{LaneState}
use Rattle.node_sets.specs.Members.{size_of}
use Rattle.lane_rounds.specs.declared.opening.Asking.{Asking}
use Rattle.lane_rounds.specs.declared.opening.Asking.TheVariants as asking
use Rattle.lane_rounds.specs.declared.opening.OpeningEnd.{OpeningEnd}
use Rattle.lane_rounds.specs.declared.opening.OpeningStep.{OpeningStep}
use Rattle.lane_rounds.specs.declared.opening.OpeningStep.TheVariants as step
use Rattle.lane_states.specs.LaneStates.{journal_of, part_of, Asks}
use Rattle.lane_states.specs.Growing.{HasHeard, is_short, IsSettled}

-- the part of an owner whose state isn't opened, between its steps
pub record IsOpening (p : Part) : Type 0 where
  pub owns : IsOwning p
  pub unopened : p.rows ≡ None
  pub told : p.awaited ≡ None
  pub no_round : p.stage ≡ Before

-- ---- one step

-- a reply came, and says that the node wants memory
abbrev pub came_short : Option Reply → Bool
came_short None = false
came_short (Some reply) = is_short (noted_reply reply)

-- the next Ask, of which nothing is sent yet
pub record IsAskNext (c e : LaneState) (d : ℕ) (m : Message) : Type 0 where
  pub asks : steps.Asks (part_of c d) (part_of e d) m
  pub may_go : Asks e d m
  pub awaited : (part_of e d).awaited ≡ Some m.receiver
  pub same : journal_of e ≡ journal_of c

pub record IsOpenedNow (c e : LaneState) (d : ℕ) : Type 0 where
  pub buckets : List Low
  pub opens : Opens (part_of c d) (part_of e d) buckets
  pub grows : journal_of e ≡ Opened d (opens.state).version buckets ∷ journal_of c
  pub last : e.last ≡ c.last

pub record IsLacking (c e : LaneState) (d missing : ℕ) : Type 0 where
  pub lacks : LacksAnswers (part_of c d) missing
  pub after : part_of e d ≡ record (part_of c d) { asked = 0; stage = Before }
  pub same : journal_of e ≡ journal_of c
  pub last : e.last ≡ c.last

abbrev pub IsNext : LaneState → LaneState → ℕ → OpeningStep → Type 0
IsNext c e d (step.Asks m) = IsAskNext c e d m
IsNext c e d step.Opened = IsOpenedNow c e d
IsNext c e d (step.Lacks missing) = IsLacking c e d missing

-- a message is sent, dealt with by a fate, and late ones are given out
pub record IsGone (number : ℕ) (m : Message) (J K : List LaneEvent) : Type 0 where
  pub fate : Fate
  pub between : List LaneEvent
  pub dealt : IsDealt fate number (sending number m ∷ J) between
  pub numbers : List ℕ
  pub late : AreDelivered numbers between K

-- one node more is asked; it is known whether it replied that it wants memory
pub record AsksOne (c e : LaneState) (d : ℕ) (short : Bool) : Type 0 where
  pub asked : Part
  pub message : Message
  pub asks : steps.Asks (part_of c d) asked message
  pub gone : IsGone (c.last + 1) message (journal_of c) (journal_of e)
  pub next : e.last ≡ c.last + 1
  pub settled : IsSettled (c.last + 1) (journal_of e) short
  pub heard : HasHeard asked (part_of e d)
  pub more : size_of (part_of e d).asked ≡ size_of (part_of c d).asked + 1
  pub opening : IsOpening (part_of e d)

abbrev pub AsksOn : LaneState → LaneState → ℕ → Asking → Type 0
AsksOn c e d (asking.Further short) = AsksOne c e d short
AsksOn c e d asking.Opened = IsOpenedNow c e d
AsksOn c e d (asking.Lacks missing) = IsLacking c e d missing

-- memory was wanted: nothing happened, though an Ask was to be sent
pub record StopsAsking (c e : LaneState) (d : ℕ) : Type 0 where
  pub same : journal_of e ≡ journal_of c
  pub last : e.last ≡ c.last
  pub after : part_of e d ≡ record (part_of c d) { asked = (part_of e d).asked; awaited = (part_of e d).awaited }

-- ---- all of them

-- node after node is asked: the journal and the part grow from the one to the other; it is known whether one of
-- them replied that it wants memory
pub data IsAsked (lane : Low) (rules : Rules) (d : ℕ) (J : List LaneEvent) (p : Part) : List LaneEvent → Part → Bool → Type 0 where
  Nobody : IsAsked lane rules d J p J p false
  More : (K L : List LaneEvent) (q asked heard : Part) (number : ℕ) (m : Message) (was one : Bool) → IsAsked lane rules d J p K q was
      → PartKeeps lane rules K d q → steps.Asks q asked m → IsGone number m K L → IsSettled number L one → HasHeard asked heard
      → IsAsked lane rules d J p L heard (was || one)

-- nodes are asked until all have answered, and then the state is opened
pub record OpensAfter (c : LaneState) (d : ℕ) (short : Bool) (K : List LaneEvent) (q : Part) : Type 0 where
  pub before : List LaneEvent
  pub part : Part
  pub asked : IsAsked c.lane c.rules d (journal_of c) (part_of c d) before part short
  pub keeps : PartKeeps c.lane c.rules before d part
  pub buckets : List Low
  pub opens : Opens part q buckets
  pub grows : K ≡ Opened d (opens.state).version buckets ∷ before

-- or until nobody is left to ask, and these haven't answered
pub record LacksAfter (c : LaneState) (d missing : ℕ) (short : Bool) (K : List LaneEvent) (q : Part) : Type 0 where
  pub part : Part
  pub asked : IsAsked c.lane c.rules d (journal_of c) (part_of c d) K part short
  pub keeps : PartKeeps c.lane c.rules K d part
  pub lacks : LacksAnswers part missing
  pub after : q ≡ record part { asked = 0; stage = Before }

abbrev pub EndsBy : LaneState → ℕ → Option ℕ → Bool → List LaneEvent → Part → Type 0
EndsBy c d None short K q = OpensAfter c d short K q
EndsBy c d (Some missing) short K q = LacksAfter c d missing short K q

abbrev pub EndsAsking : LaneState → ℕ → OpeningEnd → List LaneEvent → Part → Type 0
EndsAsking c d end K q = EndsBy c d end.missing end.short K q

-- or until memory was wanted
pub record StopsAfter (c : LaneState) (d : ℕ) (K : List LaneEvent) (q : Part) : Type 0 where
  pub part : Part
  pub short : Bool
  pub asked : IsAsked c.lane c.rules d (journal_of c) (part_of c d) K part short
  pub opening : IsOpening part
  pub after : q ≡ record part { asked = q.asked; awaited = q.awaited }

-- ---- a job that is over

pub record GivesUp (p q : Part) : Type 0 where
  pub after : q ≡ record p { asked = 0; awaited = None; stage = without_end p.stage }

-- the state is opened, or these haven't answered, and the job is over
pub record EndsOpening (c e : LaneState) (d : ℕ) (end : OpeningEnd) : Type 0 where
  pub part : Part
  pub ends : EndsAsking c d end (journal_of e) part
  pub gives_up : GivesUp part (part_of e d)

pub record StopsOpening (c e : LaneState) (d : ℕ) : Type 0 where
  pub part : Part
  pub stops : StopsAfter c d (journal_of e) part
  pub gives_up : GivesUp part (part_of e d)
