-- What a lane of a session promises: a line comes to what nodes answer where none of its messages is lost, what was
-- acknowledged there is kept, a line is refused only where another distributor owns the lane, and gets too few answers
-- only where one was lost.
use Rattle.std.specs.Prelude.{◌≡◌, ◌⊎◌, ℕ, true, false, List, [], ◌∷◌, ◌++◌, Option, None, Some, IsSome, slice_get}
use Rattle.bucket_ids.specs.Buckets.{Low}
use Rattle.cluster_states.specs.declared.cluster_state.ClusterState.{ClusterState}
use Rattle.ideal_nodes.specs.Placement.{IsOwner}
use Rattle.stamps.specs.declared.stamp.Stamp.{Stamp}
use Rattle.carriers.specs.declared.fate.Fate.{Fate}
use Rattle.messages.specs.declared.outcome.Outcome.{Outcome}
use Rattle.messages.specs.declared.outcome.Outcome.TheVariants.{Acked, TooFew, OwnedElsewhere, NoMemory}
use Rattle.op_machine.specs.Judging.{looks}
use Rattle.lane_journals.specs.Readers.{Journal, Beginning, Message, began, sent, returned, held, stopped}
use Rattle.lane_journals.specs.Meanings.{history}
use Rattle.lane_journals.specs.Places.{state_in}
use Rattle.lane_journals.specs.States.{state_of}
use Rattle.lane_journals.specs.declared.event.LaneEvent.{LaneEvent}
use Rattle.lane_journals.specs.declared.event.LaneEvent.TheVariants.{Begun, Refused, Closed}
use Rattle.lane_durability.specs.Durability.{IsDurable, LaterIsNewer, ReadsAreFresh, EnoughReadsAreCurrent, SeenIsCurrent, SawNothingOlder, AnsweredBefore, CountedOnce, SearchIsCurrent}
use Rattle.lane_carriage.specs.Readers.{fate_of, is_returned}
use Rattle.lane_completeness.specs.Causes.{IsMissing, IsLost}
use Rattle.operation_keeping.specs.Others.{AreOthers}
use Rattle.lane_calls.specs.LaneValues.{LaneValue}
use Rattle.lane_keeping.specs.Lines.{IsFresh}
use Rattle.lane_keeping.specs.Tidings.{last_state}
use Rattle.lane_calls.specs.Segments.{IsAmong, AreApart}
use Rattle.lane_lives.specs.declared.setting.Setting.{Setting}
use Rattle.lane_calls.specs.Lines.{FeedLine, Lines}
use Rattle.lane_lives.specs.Lives.{Deed, Runs, Feeds, IsLife}
use Rattle.lane_calls.specs.Readings.{outcome_in}

-- ---- completeness

-- no answer was missing
abbrev pub LacksNothing : Outcome → Type 0
LacksNothing (TooFew answered needed absent) = ⊥
LacksNothing (OwnedElsewhere owner version) = ⊥
LacksNothing _ = Unit {0}

-- the line is acknowledged with the stamp that it drew
pub record IsAcked (J : List LaneEvent) (line : ℕ) (outcome : Outcome) : Type 0 where
  pub beginning : Beginning
  pub stamp : Stamp
  pub begun : began line (history J) ≡ Some beginning
  pub drawn : beginning.stamp ≡ Some stamp
  pub is : outcome ≡ Acked stamp

-- the line is closed by what nodes answered; a put or a remove without condition with its acknowledgement, unless
-- memory was wanted
pub record IsServed (J : List LaneEvent) (line : FeedLine) : Type 0 where
  pub outcome : Outcome
  pub closed : outcome_in line.number J ≡ Some outcome
  pub answered : LacksNothing outcome
  pub acknowledged : looks line.operation ≡ false → IsAcked J line.number outcome ⊎ (outcome ≡ NoMemory)

-- each message that was sent between two journals had a fate that brings its reply back before the next is sent, and
-- a receiver that isn't stopped
abbrev pub LosesNone : List Fate → List LaneEvent → List LaneEvent → Type 0
LosesNone given J K = (number : ℕ) (m : Message) → sent number (history K) ≡ Some m → sent number (history J) ≡ None
    → (is_returned (fate_of number given) ≡ true) × (stopped m.receiver (history K) ≡ false)

-- the distributor owns the lane under the newest state, and holds that state
pub record IsNewestOwner (lane : Low) (J : List LaneEvent) (d : ℕ) : Type 0 where
  pub state : ClusterState
  pub newest : last_state J ≡ Some state
  pub holds : held d (history J) ≡ Some state.version
  pub owns : IsOwner lane state d

-- a line goes to such a one, where it names none or just that one
abbrev pub GoesToOwner : Low → Option ℕ → List LaneEvent → Type 0
GoesToOwner lane None J = Unit {0}
GoesToOwner lane (Some d) J = IsNewestOwner lane J d

-- another distributor's lane isn't why the line ended
abbrev pub IsNoRefusal : Outcome → Type 0
IsNoRefusal (OwnedElsewhere owner version) = ⊥
IsNoRefusal _ = Unit {0}

-- a line that goes to the owner isn't refused, and is served if no message was lost between its beginning and its end
pub record IsDoneWell (v : LaneValue) (line : FeedLine) (J K : List LaneEvent) : Type 0 where
  pub outcome : Outcome
  pub ended : outcome_in line.number v.journal ≡ Some outcome
  pub unrefused : IsNoRefusal outcome
  pub served : LosesNone v.given J K → IsServed v.journal line

-- the line was begun behind the first journal, and closed with the outcome behind the second
pub record WentBetween (line : FeedLine) (outcome : Outcome) (K before run : List LaneEvent) : Type 0 where
  pub distributor : ℕ
  pub version : ℕ
  pub stamp : Option Stamp
  pub since : List LaneEvent
  pub begun : run ≡ since ++ Begun line.number distributor version line.operation.id stamp ∷ before
  pub later : List LaneEvent
  pub closed : K ≡ later ++ Closed line.number outcome ∷ run

-- a line of a segment that goes to the owner isn't refused, and is served if no message was lost between its beginning and its
-- end, its own or another's
pub record IsDoneWellBeside (v : LaneValue) (line : FeedLine) (K : List LaneEvent) : Type 0 where
  pub outcome : Outcome
  pub ended : outcome_in line.number v.journal ≡ Some outcome
  pub unrefused : IsNoRefusal outcome
  pub before : List LaneEvent
  pub run : List LaneEvent
  pub between : WentBetween line outcome K before run
  pub served : LosesNone v.given before run → IsServed v.journal line

-- that is so of each of these lines, which are apart, that had no event before and has its outcome
abbrev pub AreDoneWell : Low → LaneValue → Lines → List LaneEvent → List LaneEvent → Type 0
AreDoneWell lane v lines J K = AreApart lines → (line : FeedLine) → IsAmong lines line → IsFresh (history J) line.number → GoesToOwner lane line.via J → IsSome (outcome_in line.number K) → IsDoneWellBeside v line K

abbrev pub IsPromised : Low → LaneValue → Deed → List LaneEvent → List LaneEvent → Type 0
IsPromised lane v (Runs line) J K = GoesToOwner lane line.via J → IsDoneWell v line J K
IsPromised lane v (Feeds feeders lines left) J K = AreDoneWell lane v lines J K
IsPromised lane v _ J K = Unit {0}

-- that is so of the lines among these deeds
abbrev pub AreServed : (s : Setting) (lane : Low) → LaneValue → (deeds : List Deed) (K : List LaneEvent) → IsLife s lane deeds K → Type 0
AreServed s lane v [] K life = Unit {0}
AreServed s lane v (deed ∷ deeds) K life = IsPromised lane v deed life.0 K × AreServed s lane v deeds life.0 life.1.0

-- that is so of all lines of the lane's whole life
abbrev pub IsComplete : Setting → Low → LaneValue → Type 0
IsComplete s lane v = (deeds : List Deed) (life : IsLife s lane deeds v.journal) → AreServed s lane v deeds v.journal life

-- ---- order

-- feeders left no line without an answer
abbrev pub NoneIsLeft : List Deed → Type 0
NoneIsLeft [] = Unit {0}
NoneIsLeft (Feeds feeders lines left ∷ deeds) = (left ≡ []) × NoneIsLeft deeds
NoneIsLeft (_ ∷ deeds) = NoneIsLeft deeds

-- ---- refusals

-- the line was refused at the distributor that it names, which held a state under which this other one owns the lane
pub record WasRefused (lane : Low) (lines : Lines) (J : List LaneEvent) (number owner version : ℕ) : Type 0 where
  pub line : FeedLine
  pub place : ℕ
  pub among : slice_get lines place ≡ Some line
  pub number_is : line.number ≡ number
  pub via : ℕ
  pub via_is : line.via ≡ Some via
  -- the journal as it was refused, and what came later
  pub before : List LaneEvent
  pub later : List LaneEvent
  pub event : J ≡ later ++ Refused number via (OwnedElsewhere owner version) ∷ before
  pub state : ClusterState
  pub version_is : version ≡ state.version
  pub holds : held via (history before) ≡ Some version
  pub published : state_in version before ≡ Some state
  pub owns : IsOwner lane state owner
  pub not_owner : IsOwner lane state via → ⊥

-- ---- too few answers

-- the line was closed where so few nodes had answered: a message of it to the absent node was lost, or that node took a
-- newer version
pub record LineFellShort (given : List Fate) (lines : Lines) (J : List LaneEvent) (number answered needed absent : ℕ) : Type 0 where
  pub line : FeedLine
  pub place : ℕ
  pub among : slice_get lines place ≡ Some line
  pub number_is : line.number ≡ number
  -- the journal as it was closed, and what came later
  pub run : List LaneEvent
  pub later : List LaneEvent
  pub event : J ≡ later ++ Closed number (TooFew answered needed absent) ∷ run
  pub missing : IsMissing (history run) number absent
  -- where no reply came back, the message's fate loses it, or its receiver was stopped as it was sent
  pub lost : returned missing.number (history run) ≡ false → IsLost given run missing.number

-- a line that others may have gone on beside was closed where so few nodes had answered: so it was at the moment at which it
-- wanted to end, since when others alone did something
pub record LineFellShortBeside (given : List Fate) (lines : Lines) (J : List LaneEvent) (number answered needed absent : ℕ) : Type 0 where
  pub line : FeedLine
  pub place : ℕ
  pub among : slice_get lines place ≡ Some line
  pub number_is : line.number ≡ number
  -- the journal at that moment, as the line was closed, and what came later
  pub moment : List LaneEvent
  pub run : List LaneEvent
  pub later : List LaneEvent
  pub event : J ≡ later ++ Closed number (TooFew answered needed absent) ∷ run
  pub since : AreOthers number line.operation.id moment run
  pub missing : IsMissing (history moment) number absent
  -- where no reply came back, the message's fate loses it, or its receiver was stopped as it was sent
  pub lost : returned missing.number (history moment) ≡ false → IsLost given run missing.number

-- ---- durability

-- what was acknowledged where a write needs so many copies is kept
pub record KeepsWrites (acks : ℕ) (H : Journal) : Type 0 where
  -- it, or something newer, is in enough node stores
  pub durable : IsDurable acks H
  -- what was acknowledged later is newer
  pub later : LaterIsNewer H
  -- an operation reads nothing older than what was acknowledged before it began, and sees nothing older
  pub fresh : ReadsAreFresh H
  pub current : EnoughReadsAreCurrent acks H
  pub seen : SeenIsCurrent acks H
  -- each line that was closed saw nothing older
  pub closed : SawNothingOlder acks H
  -- once a version is opened, no operation of a smaller one is acknowledged unless enough answers were given before
  pub before : AnsweredBefore acks (state_of H) H
  -- no key lies in the regions of two nodes, and a node holds in its region what was acknowledged
  pub apart : CountedOnce H
  pub held : SearchIsCurrent H
