-- Why an operation got too few answers: nothing was heard of the absent node.
use Rattle.std.specs.Prelude.{◌≡◌, ◌⊎◌, ◌≤◌, ℕ, true, false, List, [], ◌∷◌, ◌++◌, Option, None, Some, IsSome}
use Rattle.bucket_ids.specs.Buckets.{Low}
use Rattle.stamps.specs.declared.stamp.Stamp.{Stamp}
use Rattle.carriers.specs.declared.fate.Fate.{Fate}
use Rattle.messages.specs.declared.operation.Operation.{Operation}
use Rattle.messages.specs.declared.outcome.Outcome.{Outcome}
use Rattle.distributor_part.specs.declared.rules.Rules.{Rules}
use Rattle.lane_journals.specs.Buckets.{Bucket, key_of}
use Rattle.lane_journals.specs.Events.{Content, Ask, Read, Apply, ReadDoc, Store, Newer}
use Rattle.lane_journals.specs.Readers.{Journal, Beginning, published, began, before_line, prepared, wrote, opened, row_at, round_of, answer, Message, sent, first_reply, returned}
use Rattle.lane_journals.specs.States.{state_of}
use Rattle.lane_journals.specs.Meanings.{history}
use Rattle.lane_journals.specs.KeptJournals.{IsLegal}
use Rattle.lane_journals.specs.declared.event.LaneEvent.{LaneEvent}
use Rattle.lane_journals.specs.declared.event.LaneEvent.TheVariants.{Sent, Delivered, Returned}
use Rattle.lane_carriage.specs.Readers.{fate_of, is_returned, receives}
use Rattle.lane_keeping.specs.LaneKeeping.{setting_of}
use Rattle.operation_keeping.specs.Wants.{IsRun, IsEnd, IsRunSince, IsEndSince}
use Rattle.lane_completeness.specs.Completeness.{HaveReturned, with_begun}

-- ---- who is missing

-- no reply came back, or just that the node took a newer version
abbrev pub IsUnheard : Journal → ℕ → Type 0
IsUnheard H number = (returned number H ≡ false) ⊎ ((version : ℕ) × (first_reply number H ≡ Some (Newer version)))

-- the message belongs to the newest round of the row of the line's key, and the line isn't prepared
pub record IsOfRound (H : Journal) (line : ℕ) (b : Beginning) (row : Bucket) (m : Message) : Type 0 where
  pub unprepared : prepared line H ≡ None
  pub row_is : row_at b.version (key_of b.id) H ≡ Some row
  pub round_is : m.round ≡ round_of b.version row H

-- all nodes that serve in the version answered the Read of the row's newest round
abbrev pub HaveAllAnswered : Journal → ℕ → Bucket → Type 0
HaveAllAnswered H v row = (n : ℕ) → state_of H v n ≡ true → IsSome (answer v (round_of v row H) n H)

-- the message is of the phase in which a line is that began so
pub data IsOfPhase (H : Journal) (line : ℕ) (b : Beginning) (m : Message) : Type 0 where
  -- until its version is opened
  OfOpening : opened b.version H ≡ false → m.body ≡ Ask → IsOfPhase H line b m
  -- then, before it is prepared, until all answered in the round
  OfReading : (row : Bucket) → IsOfRound H line b row m → (HaveAllAnswered H b.version row → ⊥) → m.body ≡ Read row → IsOfPhase H line b m
  OfUnion : (row : Bucket) → IsOfRound H line b row m → HaveAllAnswered H b.version row → (union : Content) → m.body ≡ Apply row union → IsOfPhase H line b m
  -- then until it wrote
  OfLooking : IsSome (prepared line H) → wrote line H ≡ false → m.body ≡ ReadDoc b.id → IsOfPhase H line b m
  OfStoring : (stamp : Stamp) → b.stamp ≡ Some stamp → wrote line H ≡ true → m.body ≡ Store b.id stamp → IsOfPhase H line b m

-- since the line began a message of its version and phase was sent to the node, and nothing was heard of it
pub record IsMissing (H : Journal) (line n : ℕ) : Type 0 where
  pub beginning : Beginning
  pub begun : began line H ≡ Some beginning
  pub number : ℕ
  pub message : Message
  pub was_sent : sent number H ≡ Some message
  pub later : sent number (before_line line H) ≡ None
  pub version : message.version ≡ beginning.version
  pub receiver : message.receiver ≡ n
  pub of_phase : IsOfPhase H line beginning message
  pub unheard : IsUnheard H number

-- its fate brings no reply back before the next message is sent, or its receiver was stopped as it was sent
abbrev pub IsLost : List Fate → List LaneEvent → ℕ → Type 0
IsLost given K number = (is_returned (fate_of number given) ≡ false) ⊎ (receives number number K ≡ false)

-- ---- the line

-- the message that was sent last, while nothing happened since but what carriers do
abbrev pub just_sent : List LaneEvent → Option ℕ
just_sent [] = None
just_sent (Sent n v d to body ∷ K) = Some n
just_sent (Delivered n r ∷ K) = just_sent K
just_sent (Returned n ∷ K) = just_sent K
just_sent (_ ∷ K) = None

-- a reply to what was sent since J came back before anything else happened than what carriers do, or not at all
abbrev pub ReturnInTurn : List LaneEvent → List LaneEvent → Type 0
ReturnInTurn J [] = Unit {0}
ReturnInTurn J (Returned n ∷ K) = ReturnInTurn J K × (sent n (history J) ≡ None → just_sent K ≡ Some n)
ReturnInTurn J (_ ∷ K) = ReturnInTurn J K

-- an operation was begun and ran until it is over
pub record IsRunLine (lane : Low) (rules : Rules) (line d v : ℕ) (o : Operation) (stamp : Option Stamp) (J K : List LaneEvent) (outcome : Outcome) : Type 0 where
  pub legal : IsLegal (setting_of lane rules) K
  pub run : IsRun lane rules line o (with_begun line d v o stamp J) K
  pub in_turn : ReturnInTurn (with_begun line d v o stamp J) K
  pub end : IsEnd lane rules line o K outcome

-- an operation was begun, and is over by what it wanted since a later journal: since then it searched its row, or was
-- prepared already
pub record IsRunLineSince (lane : Low) (rules : Rules) (line d v : ℕ) (o : Operation) (stamp : Option Stamp) (J F K : List LaneEvent) (outcome : Outcome) : Type 0 where
  pub legal : IsLegal (setting_of lane rules) K
  pub early : List LaneEvent
  pub begun : F ≡ early ++ with_begun line d v o stamp J
  pub run : IsRunSince lane rules line o (history F) F K
  pub in_turn : ReturnInTurn F K
  pub end : IsEndSince lane rules line o (history F) K outcome

-- it is over so, or alone, under the newest state, and of all messages that were sent since it was begun the replies came back
pub record IsHeardLine (lane : Low) (rules : Rules) (line d v : ℕ) (o : Operation) (stamp : Option Stamp) (J K : List LaneEvent) (outcome : Outcome) : Type 0 where
  pub ran : IsRunLine lane rules line d v o stamp J K outcome ⊎ ((F : List LaneEvent) × IsRunLineSince lane rules line d v o stamp J F K outcome)
  pub newest : (w : ℕ) → published w (history K) ≡ true → w ≤ v
  pub all : HaveReturned (with_begun line d v o stamp J) K
