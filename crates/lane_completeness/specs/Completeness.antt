-- The promise of completeness: an operation of which no message is lost comes to what it asked for, but for nodes that
-- want memory.
use Rattle.std.specs.Prelude.{◌≡◌, ◌⊎◌, ◌<◌, ◌≤◌, ℕ, true, List, [], ◌∷◌, length, Option, None, Some}
use Rattle.bucket_ids.specs.Buckets.{Low}
use Rattle.stamps.specs.declared.stamp.Stamp.{Stamp}
use Rattle.carriers.specs.declared.fate.Fate.{Fate}
use Rattle.messages.specs.declared.operation.Operation.{Operation}
use Rattle.messages.specs.declared.outcome.Outcome.{Outcome}
use Rattle.messages.specs.declared.outcome.Outcome.TheVariants.{Acked, TooFew, OwnedElsewhere, NoMemory}
use Rattle.distributor_part.specs.declared.rules.Rules.{Rules}
use Rattle.lane_journals.specs.Readers.{Journal, Message, published, sent, returned}
use Rattle.lane_journals.specs.Meanings.{history}
use Rattle.lane_journals.specs.KeptJournals.{IsLegal}
use Rattle.lane_journals.specs.declared.event.LaneEvent.{LaneEvent}
use Rattle.lane_journals.specs.declared.event.LaneEvent.TheVariants.{Begun, Stopped, Started}
use Rattle.lane_carriage.specs.Readers.{receives, fate_of, is_returned}
use Rattle.lane_keeping.specs.LaneKeeping.{setting_of}
use Rattle.operation_keeping.specs.OperationKeeping.{WasShort}
use Rattle.operation_keeping.specs.Wants.{IsCarriage, IsRun, IsEnd}

-- ---- no message is lost

-- of each message that was sent since J the reply came back
abbrev pub HaveReturned : List LaneEvent → List LaneEvent → Type 0
HaveReturned J K = (number : ℕ) (m : Message) → sent number (history K) ≡ Some m → sent number (history J) ≡ None → returned number (history K) ≡ true

-- and it came back before anything else happened than what carriers do
abbrev pub InTurn : List LaneEvent → List LaneEvent → Type 0
InTurn J [] = Unit {0}
InTurn J (e ∷ K) = InTurn J K × (IsCarriage e ⊎ HaveReturned J K)

pub record IsUndisturbed (J K : List LaneEvent) : Type 0 where
  pub in_turn : InTurn J K
  pub all : HaveReturned J K

-- the receiver of each message that was sent since J ran then
abbrev pub RunSince : List LaneEvent → List LaneEvent → Type 0
RunSince J K = (number : ℕ) (m : Message) → sent number (history K) ≡ Some m → sent number (history J) ≡ None → receives number number K ≡ true

-- no node stops or starts in these events
abbrev pub NoneStops : List LaneEvent → Type 0
NoneStops [] = Unit {0}
NoneStops (Stopped n ∷ K) = ⊥
NoneStops (Started n ∷ K) = ⊥
NoneStops (_ ∷ K) = NoneStops K

-- from a number on each fate delivers its message and brings back the reply before the next is sent
abbrev pub AreAnswered : ℕ → List Fate → Type 0
AreAnswered last given = (number : ℕ) → last < number → number ≤ length given → is_returned (fate_of number given) ≡ true

-- the journal once the line was begun
abbrev pub with_begun : ℕ → ℕ → ℕ → Operation → Option Stamp → List LaneEvent → List LaneEvent
with_begun line d v o stamp J = Begun line d v o.id stamp ∷ J

-- an operation was begun under the newest state, and ran undisturbed until it is over
pub record IsUndisturbedLine (lane : Low) (rules : Rules) (line d v : ℕ) (o : Operation) (stamp : Option Stamp) (J K : List LaneEvent) (outcome : Outcome) : Type 0 where
  pub legal : IsLegal (setting_of lane rules) K
  pub newest : (w : ℕ) → published w (history J) ≡ true → w ≤ v
  pub run : IsRun lane rules line o (with_begun line d v o stamp J) K
  pub undisturbed : IsUndisturbed (with_begun line d v o stamp J) K
  pub end : IsEnd lane rules line o K outcome

-- ---- the end

-- a node that was asked since the line began replied that it wanted memory
abbrev pub WantedMemory : Journal → ℕ → Type 0
WantedMemory H line = WasShort H line (λ m. Unit {0})

-- no answer was missing, but for a node that wanted memory
abbrev pub IsDecided : Journal → ℕ → Outcome → Type 0
IsDecided H line (TooFew answered needed absent) = ⊥
IsDecided H line (OwnedElsewhere owner version) = ⊥
IsDecided H line NoMemory = WantedMemory H line
IsDecided H line _ = Unit {0}

-- it is acknowledged with its stamp, or a node wanted memory
abbrev pub EndsWell : Option Stamp → Journal → ℕ → Outcome → Type 0
EndsWell stamp H line outcome = ((t : Stamp) × (stamp ≡ Some t) × (outcome ≡ Acked t)) ⊎ ((outcome ≡ NoMemory) × WantedMemory H line)
