-- A round that a lane runs: whose it is, what it sends message by message, and what it came to.
use Rattle.std.specs.Prelude.{◌≡◌, ◌≢◌, ◌↔◌, ◌<◌, ◌==◌, ◌&&◌, ◌||◌, not, ℕ, ◌+◌, ◌-◌, Bool, true, false, List, [], ◌∷◌, ◌++◌, length, Option, Some, None}
use Rattle.bucket_ids.specs.Buckets.{Low, IsIn, has_key}
use Rattle.node_sets.specs.Members.{has_node, size_of}
use Rattle.cluster_states.specs.declared.cluster_state.ClusterState.{ClusterState}
use Rattle.cluster_states.specs.Publishing.{serves}
use Rattle.ideal_nodes.specs.Placement.{IsOwner}
use Rattle.carriers.specs.declared.fate.Fate.{Fate}
use Rattle.messages.specs.Noting.{noted_reply}
use Rattle.messages.specs.declared.message.Message.{Message}
use Rattle.messages.specs.declared.reply.Reply.{Reply}
use Rattle.messages.specs.declared.noted.NotedReply.{NotedReply}
use Rattle.messages.specs.declared.noted.NotedReply.TheVariants as noted
use Rattle.messages.specs.declared.decision.Decision.TheVariants.{RoundBegun, RoundEnded}
use Rattle.bucket_db.specs.Rows.{Rows}
use Rattle.bucket_db.specs.declared.row.Row.{Row}
use Rattle.distributor_part.specs.declared.stage.Stage.{Stage}
use Rattle.distributor_part.specs.declared.stage.Stage.TheVariants.{Before, Running, Over}
use Rattle.distributor_part.specs.Parts.{Part}
use Rattle.distributor_part.specs.Steps.{IsRowOf, HasEnough, EndsRound}
use Rattle.merge_rounds.specs.Rounds.{RoundState, new_round, did_show, HaveAllShown, IsOver, IsNext, after_send, after_read, IsAfterApply}
use Rattle.messages.specs.Waiting.{NoneIsDue}
use Rattle.messages.specs.declared.late.Late.{Late}
use Rattle.lane_carriage.specs.Carriage.{IsDealt}
use Rattle.lane_carriage.specs.Waits.{kept_by}
use Rattle.lane_journals.specs.Buckets.{contains}
use Rattle.lane_journals.specs.Events as plain
use Rattle.lane_journals.specs.Readers as readers
use Rattle.lane_journals.specs.Readers.{Journal, sent, first_reply, returned, round_of, running}
use Rattle.lane_journals.specs.Meanings.{history}
use Rattle.lane_journals.specs.declared.event.LaneEvent.{LaneEvent}
use Rattle.lane_journals.specs.declared.event.LaneEvent.TheVariants.{Decided}
use Rattle.lane_keeping.specs.Replaying.{sending}
use Rattle.lane_keeping.specs.Acting.{IsActing, IsKnownRow}
use Rattle.lane_keeping.specs.RoundKeeping.{origin_in, KnowsRound, KnowsAnswers}
use Rattle.lane_carriage.specs.Carrying.{met_at, DeliversSome}
use Rattle.round_keeping.specs.declared.round_run.RoundRun.{RoundRun}
use Rattle.round_keeping.specs.declared.round_run.RoundEnd.{RoundEnd}

-- ---- one message

-- the message is sent with the next number, dealt with by its fate, as its receiver runs or is stopped, and followed by
-- the late ones that are due
pub record Sends (m : Message) (fate : Fate) (last : ℕ) (late : List Late) (J : List LaneEvent) (rest : List Late) (K : List LaneEvent) : Type 0 where
  pub after : List LaneEvent
  pub dealt : IsDealt (met_at J m fate) (last + 1) (sending (last + 1) m ∷ J) after
  pub due : DeliversSome (last + 1) (kept_by fate (last + 1) m late) rest after K
  pub none_left : NoneIsDue (last + 1) rest

-- what the round makes of the reply that it is told, or of none
pub record IsAfterReply (r q : RoundState) (node : ℕ) (reply : Option Reply) : Type 0 where
  pub read : r.applies ≡ 0 → q ≡ after_read r node reply
  pub applied : 0 < r.applies → IsAfterApply r q node reply

abbrev pub is_refusal : NotedReply → Bool
is_refusal noted.NoMemory = true
is_refusal _ = false

-- ---- the round under way

-- a message that passes a test was sent, and its reply NoMemory came back
pub record WasRefused (H : Journal) (test : readers.Message → Type 0) : Type 0 where
  pub number : ℕ
  pub message : readers.Message
  pub was_sent : sent number H ≡ Some message
  pub tested : test message
  pub reply : first_reply number H ≡ Some plain.NoMemory
  pub back : returned number H ≡ true

-- a Read of the row, and an Apply of its union, in the round of the version with this number
abbrev pub is_read_in : ℕ → Low → ℕ → readers.Message → Type 0
is_read_in v b number m = (m.version ≡ v) × (m.round ≡ number) × (m.body ≡ plain.Read b)

abbrev pub is_apply_in : ℕ → Low → ℕ → readers.Message → Type 0
is_apply_in v b number m = (m.version ≡ v) × (m.round ≡ number) × ((u : plain.Content) × (m.body ≡ plain.Apply b u))

-- it is known whether one of those asked for the row wanted memory, and whether one of those that were to take the union
pub record KnowsRefusals (H : Journal) (v number : ℕ) (b : Low) (unread unapplied : Bool) : Type 0 where
  pub unread_is : (unread ≡ true) ↔ WasRefused H (is_read_in v b number)
  pub unapplied_is : (unapplied ≡ true) ↔ WasRefused H (is_apply_in v b number)

-- no round is under way
abbrev pub NoneRuns : List LaneEvent → Type 0
NoneRuns J = (v : ℕ) (b : Low) → running v b (history J) ≡ false

-- the round is the owner's, and the only one
pub record IsRunning (lane : Low) (J : List LaneEvent) (x : RoundRun) : Type 0 where
  pub acting : IsActing lane J x.distributor x.state
  pub knows : KnowsRound lane J x.distributor x.state x.round
  pub others : (v : ℕ) (b : Low) → v ≢ (x.state).version → running v b (history J) ≡ false
  pub refusals : KnowsRefusals (history J) (x.state).version (round_of (x.state).version (x.round).row (history J)) (x.round).row x.unread x.unapplied

-- its next message was taken from it, and isn't sent yet
pub record IsToSend (lane : Low) (J : List LaneEvent) (x : RoundRun) (m : Message) : Type 0 where
  pub round : RoundState
  pub runs : IsRunning lane J (record x { round = round })
  pub told : round.awaited ≡ None
  pub next : IsNext round (Some m)
  pub is : x.round ≡ after_send round (Some m)

-- the same of a message that may never be sent, for want of memory
pub record IsCutOff (lane : Low) (J : List LaneEvent) (x : RoundRun) : Type 0 where
  pub round : RoundState
  pub runs : IsRunning lane J (record x { round = round })
  pub rest : x.round ≡ record round { reads = (x.round).reads; applies = (x.round).applies; awaited = (x.round).awaited }

-- the round is the same, with more that was sent and answered
pub record GoesOn (x y : RoundRun) : Type 0 where
  pub run_is : y ≡ record x { round = y.round; unread = y.unread; unapplied = y.unapplied }
  pub round_is : y.round ≡ record x.round { reads = (y.round).reads; applies = (y.round).applies; awaited = (y.round).awaited; shown = (y.round).shown; union = (y.round).union; holders = (y.round).holders }

-- the round is told the reply, and it is kept in mind that the node wants memory
pub record IsRunToldBy (x y : RoundRun) (node : ℕ) (reply : Reply) : Type 0 where
  pub told : IsAfterReply x.round y.round node (Some reply)
  pub run_is : y ≡ record x { round = y.round; unread = x.unread || ((x.round).applies == 0 && is_refusal (noted_reply reply)); unapplied = x.unapplied || (not ((x.round).applies == 0) && is_refusal (noted_reply reply)) }

-- so many messages are left to send at most
abbrev pub left : RoundState → ℕ
left r = (size_of r.readers - r.reads) + (size_of r.receivers - r.applies)

-- the part of the owner runs the round in the row of the key
pub record IsRunBy (p : Part) (x : RoundRun) : Type 0 where
  pub heard : p.state ≡ Some x.state
  pub unasked : p.asked ≡ 0
  pub told : p.awaited ≡ None
  pub rows : Rows
  pub opened : p.rows ≡ Some rows
  pub at : ℕ
  pub running : p.stage ≡ Running at (x.round).receivers
  pub row : Row
  pub is_row : IsRowOf rows x.key at row
  pub row_is : (x.round).row ≡ row.bucket

-- ---- its beginning

-- the owner's part opened its state, and no job of it is under way
pub record MayBegin (lane : Low) (d : ℕ) (p : Part) (key : ℕ) : Type 0 where
  pub state : ClusterState
  pub heard : p.state ≡ Some state
  pub owner : IsOwner lane state d
  pub rows : Rows
  pub opened : p.rows ≡ Some rows
  pub unasked : p.asked ≡ 0
  pub told : p.awaited ≡ None
  pub no_round : p.stage ≡ Before
  pub inside : IsIn lane key

-- the lowest key of a bucket lies in it and in the lane
pub record LowIsThere (lane bucket : Low) : Type 0 where
  pub inside : IsIn lane bucket.low
  pub own : has_key bucket bucket.low ≡ true

-- the same of the row of a place, whatever its marks are
pub record MayBeginAt (lane : Low) (d : ℕ) (p : Part) (at : ℕ) : Type 0 where
  pub state : ClusterState
  pub heard : p.state ≡ Some state
  pub owner : IsOwner lane state d
  pub rows : Rows
  pub opened : p.rows ≡ Some rows
  pub unasked : p.asked ≡ 0
  pub told : p.awaited ≡ None
  pub no_round : p.stage ≡ Before
  pub place : at < length rows.rows

-- the round has sent nothing, and all serving nodes are its readers
pub record IsNewRun (lane : Low) (d : ℕ) (s : ClusterState) (key : ℕ) (bucket : Low) (receivers : ℕ) (x : RoundRun) : Type 0 where
  pub readers : ℕ
  pub readers_are : (n : ℕ) → has_node readers n ≡ serves s n
  pub is : x ≡ record { distributor = d; state = s; key = key; round = new_round (origin_in lane d s) bucket readers receivers; unread = false; unapplied = false }

-- the row has enough complete members, and the job is over
pub record EndsEnough (p q : Part) (key : ℕ) : Type 0 where
  pub missing : ℕ
  pub enough : HasEnough p key missing
  pub after : q ≡ record p { asked = 0; stage = Before }

-- the round begins, and has sent nothing
pub record Begins (lane : Low) (J K : List LaneEvent) (distributor key : ℕ) (x : RoundRun) : Type 0 where
  pub distributor_is : x.distributor ≡ distributor
  pub key_is : x.key ≡ key
  pub grows : K ≡ Decided distributor (x.state).version (RoundBegun (x.round).row (x.round).receivers) ∷ J
  pub runs : IsRunning lane K x
  pub new : IsNewRun lane distributor x.state key (x.round).row (x.round).receivers x

-- ---- its run

-- the round that the journal shows sends its next message
pub record SendsNext (lane : Low) (d : ℕ) (s : ClusterState) (fate : Fate) (last : ℕ) (late : List Late) (J : List LaneEvent) (rest : List Late) (K : List LaneEvent) : Type 0 where
  pub round : RoundState
  pub knows : KnowsRound lane J d s round
  pub message : Message
  pub next : IsNext round (Some message)
  pub sends : Sends message fate last late J rest K

-- it sends one after the other, of these fates
pub data IsRoundRun (lane : Low) (d : ℕ) (s : ClusterState) (last : ℕ) (late : List Late) (J : List LaneEvent) : List Fate → List Late → List LaneEvent → Type 0 where
  Nothing : IsRoundRun lane d s last late J [] late J
  Further : (fates : List Fate) (mid : List Late) (K : List LaneEvent) (fate : Fate) (rest : List Late) (L : List LaneEvent) → IsRoundRun lane d s last late J fates mid K → SendsNext lane d s fate (last + length fates) mid K rest L → IsRoundRun lane d s last late J (fates ++ fate ∷ []) rest L

-- and the carrier gave these fates meanwhile
pub record RunsOn (lane : Low) (d : ℕ) (s : ClusterState) (given after : List Fate) (last now : ℕ) (late rest : List Late) (J K : List LaneEvent) : Type 0 where
  pub fates : List Fate
  pub given_are : after ≡ given ++ fates
  pub last_is : now ≡ last + length fates
  pub run : IsRoundRun lane d s last late J fates rest K

-- ---- its end

-- the round's end is decided, with those that answered the union until then
abbrev pub EndsWith : RoundRun → List LaneEvent → List LaneEvent → Type 0
EndsWith x J K = K ≡ Decided x.distributor (x.state).version (RoundEnded (x.round).row (x.round).holders) ∷ J

-- the part is told that its round is over
pub record IsToldOver (p q : Part) (complete : ℕ) : Type 0 where
  pub at : ℕ
  pub receivers : ℕ
  pub running : p.stage ≡ Running at receivers
  pub missing : ℕ
  pub after : q ≡ record p { stage = Over at complete missing }

abbrev pub IsStageOver : Stage → Type 0
IsStageOver (Over at complete missing) = Unit {0}
IsStageOver _ = ⊥

-- it ends the round, and its job is over; the row of the key has the marks
pub record EndsJob (p q : Part) (key : ℕ) (row : Row) : Type 0 where
  pub bucket : Low
  pub complete : ℕ
  pub ended : Part
  pub ends : EndsRound p ended bucket complete
  pub after : q ≡ record ended { asked = 0; awaited = None; stage = Before }
  pub rows : Rows
  pub opened : ended.rows ≡ Some rows
  pub at : ℕ
  pub is_row : IsRowOf rows key at row

-- both, of a round
pub record EndsRun (p q : Part) (x : RoundRun) (row : Row) : Type 0 where
  pub over : Part
  pub told : IsToldOver p over (x.round).holders
  pub ends : EndsJob over q x.key row

-- those that were asked last and didn't answer: of the Applies where all readers have answered, else of the Reads
abbrev pub are_missing : RoundState → Bool → ℕ → Bool
are_missing r true n = has_node r.receivers n && not (has_node r.holders n)
are_missing r false n = has_node r.readers n && not (did_show n r.shown)

-- whether one of those wanted memory
abbrev pub is_short : RoundRun → Bool → Bool
is_short x true = x.unapplied
is_short x false = x.unread

-- what is known of the key's row after its round
pub record IsEnd (J : List LaneEvent) (x : RoundRun) (e : RoundEnd) : Type 0 where
  pub known : IsKnownRow (x.state).version (history J) e.row
  pub inside : contains (e.row).bucket x.key ≡ true
  pub same_row : (x.round).row ≡ (e.row).bucket
  pub answers : KnowsAnswers J x.state x.round
  pub refusals : KnowsRefusals (history J) (x.state).version (round_of (x.state).version (x.round).row (history J)) (x.round).row x.unread x.unapplied
  pub whole_is : (e.whole ≡ true) ↔ HaveAllShown (x.round).readers (x.round).shown
  pub missing_are : (n : ℕ) → has_node e.missing n ≡ are_missing x.round e.whole n
  pub short_is : e.short ≡ is_short x e.whole

-- ---- both

-- the round was run to its end
pub record IsWholeRun (lane : Low) (x : RoundRun) (e : RoundEnd) (given after : List Fate) (last now : ℕ) (late rest : List Late) (J K : List LaneEvent) : Type 0 where
  pub run : RoundRun
  pub same : GoesOn x run
  pub over : IsOver run.round
  pub before : List LaneEvent
  pub on : RunsOn lane x.distributor x.state given after last now late rest J before
  pub knows : KnowsRound lane before x.distributor x.state run.round
  pub ended : EndsWith run before K
  pub end : IsEnd K run e

-- the round was cut off, and ended with those that had answered its union
pub record IsCutShort (lane : Low) (x : RoundRun) (given after : List Fate) (last now : ℕ) (late rest : List Late) (J K : List LaneEvent) : Type 0 where
  pub run : RoundRun
  pub same : GoesOn x run
  pub before : List LaneEvent
  pub on : RunsOn lane x.distributor x.state given after last now late rest J before
  pub round : RoundState
  pub knows : KnowsRound lane before x.distributor x.state round
  pub ended : K ≡ Decided x.distributor (x.state).version (RoundEnded round.row round.holders) ∷ before
