-- What the operation of a line wants next: an event, or its end with an outcome. It is read off the journal, of
-- which a distributor's part, a round and an operation's machine are what it says.
use Rattle.std.specs.Prelude.{◌≡◌, ◌⊎◌, ◌↔◌, ◌&&◌, not, ℕ, ◌<◌, ◌≤◌, true, false, List, ◌∷◌, Option, None, Some}
use Rattle.bucket_ids.specs.Buckets.{Low}
use Rattle.node_sets.specs.Members.{has_node, size_of}
use Rattle.stamps.specs.declared.stamp.Stamp.{Stamp}
use Rattle.cluster_states.specs.declared.cluster_state.ClusterState.{ClusterState}
use Rattle.cluster_states.specs.Publishing.{serves}
use Rattle.documents.specs.declared.entry.Entry.{Entry}
use Rattle.messages.specs.declared.message.Message.{Message}
use Rattle.messages.specs.declared.body.Body.{Body}
use Rattle.messages.specs.declared.body.Body.TheVariants as body
use Rattle.messages.specs.declared.decision.Decision.TheVariants.{RoundBegun, RoundEnded}
use Rattle.messages.specs.declared.operation.Operation.{Operation}
use Rattle.messages.specs.declared.outcome.Outcome.{Outcome}
use Rattle.messages.specs.declared.outcome.Outcome.TheVariants.{TooFew, NoMemory}
use Rattle.messages.specs.declared.step.Step.{Step}
use Rattle.messages.specs.declared.step.Step.TheVariants.{Send, Open, Decide, Finished}
use Rattle.bucket_db.specs.declared.row.Row.{Row}
use Rattle.distributor_part.specs.declared.rules.Rules.{Rules}
use Rattle.distributor_part.specs.declared.stage.Stage.TheVariants.{Before}
use Rattle.distributor_part.specs.Parts.{Part}
use Rattle.distributor_part.specs.Steps.{IsStep}
use Rattle.merge_rounds.specs.Rounds.{RoundState, did_show, HaveAllShown, IsNext}
use Rattle.op_machine.specs.declared.machine.Standing.{Standing}
use Rattle.op_machine.specs.Nodes.{count_nodes}
use Rattle.op_machine.specs.Outcomes.{absent_of, Next, Asks, Finishes}
use Rattle.op_machine.specs.Standings.{next_at}
use Rattle.lane_journals.specs.Buckets.{contains, key_of}
use Rattle.lane_journals.specs.Events as plain
use Rattle.lane_journals.specs.Readers as readers
use Rattle.lane_journals.specs.Readers.{Journal, Beginning, prepared, opened, round_of, running, sent, first_reply, returned, before_line}
use Rattle.lane_journals.specs.Meanings.{history}
use Rattle.lane_journals.specs.declared.event.LaneEvent.{LaneEvent}
use Rattle.lane_journals.specs.declared.event.LaneEvent.TheVariants.{Opened, Prepared, Wrote, Delivered, Returned, Decided}
use Rattle.lane_keeping.specs.Replaying.{sending}
use Rattle.lane_keeping.specs.LaneKeeping.{PartKeeps}
use Rattle.lane_keeping.specs.Acting.{IsActing, IsKnownRow}
use Rattle.lane_keeping.specs.RoundKeeping.{KnowsRound, KnowsAnswers}
use Rattle.operation_keeping.specs.OperationKeeping.{IsUnderWay, WasShortSince, KnowsOperation}

pub data Want : Type 0 where
  -- this event comes next
  Adds : LaneEvent → Want
  -- the operation is over, with this outcome
  Ends : Outcome → Want

-- ---- want of memory

-- it ends with NoMemory where one of those asked wanted memory, else with the outcome
abbrev pub EndsUnless : Type 0 → Outcome → Want → Type 0
EndsUnless short outcome (Adds e) = ⊥
EndsUnless short outcome (Ends x) = (short × (x ≡ NoMemory)) ⊎ ((short → ⊥) × (x ≡ outcome))

-- ---- the opening

-- an Ask of the version was sent to the node since an earlier journal
pub record WasAskedSince (from H : Journal) (v n : ℕ) : Type 0 where
  pub number : ℕ
  pub message : readers.Message
  pub was_sent : sent number H ≡ Some message
  pub later : sent number from ≡ None
  pub version : message.version ≡ v
  pub receiver : message.receiver ≡ n
  pub body : message.body ≡ plain.Ask

abbrev pub is_ask : ℕ → readers.Message → Type 0
is_ask v m = (m.version ≡ v) × (m.body ≡ plain.Ask)

-- too few nodes have answered an Ask of the version so far; the absent one is the least that hasn't
abbrev pub opening_short : ClusterState → ℕ → ℕ → Outcome
opening_short s answered missing = TooFew (count_nodes (λ n. serves s n && has_node answered n)) (count_nodes (serves s)) (absent_of None (has_node missing))

-- what a step of the distributor's part comes to while the state isn't opened
abbrev pub OpeningGives : List LaneEvent → Journal → ℕ → ClusterState → Part → Step → Want → Type 0
OpeningGives J from d s p (Send m) (Adds e) = (number : ℕ) × (e ≡ sending number m)
OpeningGives J from d s p (Open buckets) (Adds e) = e ≡ Opened d s.version buckets
OpeningGives J from d s p (Finished missing) want = EndsUnless (WasShortSince from (history J) (is_ask s.version)) (opening_short s p.answered missing) want
OpeningGives J from d s p _ _ = ⊥

-- the part is what the journal says, and it asked just those to which an Ask was sent since the search for the row began
pub record OpeningWants (lane : Low) (rules : Rules) (J : List LaneEvent) (from : Journal) (key d : ℕ) (s : ClusterState) (want : Want) : Type 0 where
  pub part : Part
  pub after : Part
  pub step : Step
  pub keeps : PartKeeps lane rules J d part
  pub heard : part.state ≡ Some s
  pub unopened : part.rows ≡ None
  pub no_round : part.stage ≡ Before
  pub asked : (n : ℕ) → (has_node part.asked n ≡ true) ↔ WasAskedSince from (history J) s.version n
  pub is_step : IsStep part key step after
  pub gives : OpeningGives J from d s part step want

-- ---- the row of the key

-- the row, as the part of the owner has it
pub record HasRow (J : List LaneEvent) (key v : ℕ) (row : Row) : Type 0 where
  pub known : IsKnownRow v (history J) row
  pub inside : contains row.bucket key ≡ true
  pub no_round : running v row.bucket (history J) ≡ false

-- no round was begun there since an earlier journal
abbrev pub NoRoundSince : List LaneEvent → Journal → ℕ → Low → Type 0
NoRoundSince J from v b = round_of v b (history J) ≡ round_of v b from

-- a row of too few complete members wants a round, by the step of the part
pub record BeginningWants (lane : Low) (rules : Rules) (J : List LaneEvent) (from : Journal) (key d : ℕ) (s : ClusterState) (want : Want) : Type 0 where
  pub row : Row
  pub has_row : HasRow J key s.version row
  pub none : NoRoundSince J from s.version row.bucket
  pub part : Part
  pub after : Part
  pub receivers : ℕ
  pub keeps : PartKeeps lane rules J d part
  pub is_step : IsStep part key (Decide (RoundBegun row.bucket receivers)) after
  pub is : want ≡ Adds (Decided d s.version (RoundBegun row.bucket receivers))

-- the round under way wants its next message, or its end
abbrev pub RoundGives : ℕ → ClusterState → RoundState → Option Message → Want → Type 0
RoundGives d s r (Some m) (Adds e) = (number : ℕ) × (e ≡ sending number m)
RoundGives d s r None (Adds e) = e ≡ Decided d s.version (RoundEnded r.row r.holders)
RoundGives d s r _ (Ends x) = ⊥

pub record RoundWants (lane : Low) (J : List LaneEvent) (key d : ℕ) (s : ClusterState) (want : Want) : Type 0 where
  pub round : RoundState
  pub knows : KnowsRound lane J d s round
  pub inside : contains round.row key ≡ true
  pub next : Option Message
  pub is_next : IsNext round next
  pub gives : RoundGives d s round next want

-- a row of enough complete members is prepared
pub record PreparingWants (rules : Rules) (J : List LaneEvent) (line key : ℕ) (s : ClusterState) (want : Want) : Type 0 where
  pub row : Row
  pub has_row : HasRow J key s.version row
  pub enough : rules.acks ≤ size_of row.complete
  pub is : want ≡ Adds (Prepared line row.bucket row.complete)

-- a Read of the row, and an Apply of its union, in a round of the version
abbrev pub is_round_read : ℕ → Low → ℕ → readers.Message → Type 0
is_round_read v b number m = (m.version ≡ v) × (m.round ≡ number) × (m.body ≡ plain.Read b)

abbrev pub is_round_apply : ℕ → Low → ℕ → readers.Message → Type 0
is_round_apply v b number m = (m.version ≡ v) × (m.round ≡ number) × ((u : plain.Content) × (m.body ≡ plain.Apply b u))

-- where not all readers were shown, those of them that were answered
abbrev pub reads_short : ClusterState → Row → RoundState → Outcome
reads_short s row r = TooFew (count_nodes (λ n. serves s n && did_show n r.shown)) (count_nodes (serves s)) (absent_of row.active (λ n. serves s n && not (did_show n r.shown)))

-- else the row's complete members are counted
abbrev pub union_short : Rules → Row → RoundState → Outcome
union_short rules row r = TooFew (size_of row.complete) rules.acks (absent_of row.active (λ n. has_node r.receivers n && not (has_node r.holders n)))

abbrev pub AfterRound : Rules → List LaneEvent → Journal → ClusterState → Row → RoundState → Want → Type 0
AfterRound rules J from s row r want =
    ((HaveAllShown r.readers r.shown → ⊥)
    × EndsUnless (WasShortSince from (history J) (is_round_read s.version row.bucket (round_of s.version row.bucket (history J)))) (reads_short s row r) want)
    ⊎ (HaveAllShown r.readers r.shown
    × EndsUnless (WasShortSince from (history J) (is_round_apply s.version row.bucket (round_of s.version row.bucket (history J)))) (union_short rules row r) want)

-- a row that has too few of them after its round ends the operation
pub record ShortWants (rules : Rules) (J : List LaneEvent) (from : Journal) (key : ℕ) (s : ClusterState) (want : Want) : Type 0 where
  pub row : Row
  pub has_row : HasRow J key s.version row
  pub few : size_of row.complete < rules.acks
  pub round : RoundState
  pub same_row : round.row ≡ row.bucket
  pub since : NoRoundSince J from s.version row.bucket → ⊥
  pub knows : KnowsAnswers J s round
  pub gives : AfterRound rules J from s row round want

-- ---- the operation

-- where the operation stands, as the journal says
pub record IsAtStanding (lane : Low) (rules : Rules) (J : List LaneEvent) (line : ℕ) (o : Operation) (d : ℕ) (s : ClusterState) (row : Low) (written : Option Entry) (t : Standing) : Type 0 where
  pub knows : KnowsOperation lane rules J d s line row written t
  pub operation_is : t.plan.operation ≡ o

-- a Store is sent once its entry is written
abbrev pub BodyGives : ℕ → Option Entry → Message → Body → LaneEvent → Type 0
BodyGives line None m (body.Store entry) e = e ≡ Wrote line entry
BodyGives line written m _ e = (number : ℕ) × (e ≡ sending number m)

abbrev pub NextGives : ℕ → Option Entry → Next → Want → Type 0
NextGives line written (Asks m) (Adds e) = BodyGives line written m m.body e
NextGives line written (Finishes x) (Ends y) = y ≡ x
NextGives line written _ _ = ⊥

pub record OperationWants (lane : Low) (rules : Rules) (J : List LaneEvent) (line : ℕ) (o : Operation) (d : ℕ) (s : ClusterState) (want : Want) : Type 0 where
  pub row : Low
  pub written : Option Entry
  pub standing : Standing
  pub stands : IsAtStanding lane rules J line o d s row written standing
  pub gives : NextGives line written (next_at standing) want

-- ---- the line

-- before it is prepared, the line wants the state to be opened and then a row of enough complete members
abbrev pub UnpreparedWants : Low → Rules → List LaneEvent → ℕ → Journal → ℕ → ℕ → ClusterState → Want → Type 0
UnpreparedWants lane rules J line from key d s want =
    OpeningWants lane rules J from key d s want
    ⊎ (BeginningWants lane rules J from key d s want
    ⊎ (RoundWants lane J key d s want
    ⊎ (PreparingWants rules J line key s want
    ⊎ ShortWants rules J from key s want)))

-- what the operation of a line that was begun and isn't closed wants next, whose search for a row began with an earlier
-- journal
pub record WantsSince (lane : Low) (rules : Rules) (line : ℕ) (o : Operation) (from : Journal) (J : List LaneEvent) (want : Want) : Type 0 where
  pub distributor : ℕ
  pub state : ClusterState
  pub stamp : Option Stamp
  pub acting : IsActing lane J distributor state
  pub under_way : IsUnderWay lane (history J) distributor state line o stamp
  pub wants : ((prepared line (history J) ≡ None) × UnpreparedWants lane rules J line from (key_of o.id) distributor state want)
      ⊎ OperationWants lane rules J line o distributor state want

-- of a line whose search began as the line did
abbrev pub Wants : Low → Rules → ℕ → Operation → List LaneEvent → Want → Type 0
Wants lane rules line o J want = WantsSince lane rules line o (before_line line (history J)) J want

-- ---- how a journal grows by a line

-- what carriers do with messages, the line's and late ones
abbrev pub IsCarriage : LaneEvent → Type 0
IsCarriage (Delivered number r) = Unit {0}
IsCarriage (Returned number) = Unit {0}
IsCarriage _ = ⊥

abbrev pub IsWanted : Low → Rules → ℕ → Operation → LaneEvent → List LaneEvent → Type 0
IsWanted lane rules line o e J = IsCarriage e ⊎ Wants lane rules line o J (Adds e)

-- the journal grew from one to the other by what the operation of the line wanted next, and by deliveries and returns
pub data IsRun (lane : Low) (rules : Rules) (line : ℕ) (o : Operation) (J : List LaneEvent) : List LaneEvent → Type 0 where
  Same : IsRun lane rules line o J J
  More : (e : LaneEvent) (K : List LaneEvent) → IsRun lane rules line o J K → IsWanted lane rules line o e K → IsRun lane rules line o J (e ∷ K)

-- the line wants to end so
abbrev pub IsEnd : Low → Rules → ℕ → Operation → List LaneEvent → Outcome → Type 0
IsEnd lane rules line o J outcome = Wants lane rules line o J (Ends outcome)

-- a round that is cut off for want of memory ends with those that answered the union until then
pub record IsCutRound (lane : Low) (L K : List LaneEvent) : Type 0 where
  pub distributor : ℕ
  pub state : ClusterState
  pub round : RoundState
  pub knows : KnowsRound lane L distributor state round
  pub ended : K ≡ Decided distributor state.version (RoundEnded round.row round.holders) ∷ L

-- a run that was cut off for want of memory
abbrev pub IsCutRun : Low → Rules → ℕ → Operation → List LaneEvent → List LaneEvent → Type 0
IsCutRun lane rules line o J K = (L : List LaneEvent) × IsRun lane rules line o J L × ((K ≡ L) ⊎ IsCutRound lane L K)

-- ---- how it grows by a search that began with an earlier journal, and by the messages of an operation

-- what carriers do: any message is delivered, and a reply comes back to what was sent since
abbrev pub IsCarriageSince : Journal → LaneEvent → Type 0
IsCarriageSince from (Delivered number r) = Unit {0}
IsCarriageSince from (Returned number) = sent number from ≡ None
IsCarriageSince from _ = ⊥

abbrev pub IsWantedSince : Low → Rules → ℕ → Operation → Journal → LaneEvent → List LaneEvent → Type 0
IsWantedSince lane rules line o from e J = IsCarriageSince from e ⊎ WantsSince lane rules line o from J (Adds e)

-- the journal grew so, by what the operation of the line wanted next
pub data IsRunSince (lane : Low) (rules : Rules) (line : ℕ) (o : Operation) (from : Journal) (J : List LaneEvent) : List LaneEvent → Type 0 where
  Still : IsRunSince lane rules line o from J J
  Longer : (e : LaneEvent) (K : List LaneEvent) → IsRunSince lane rules line o from J K → IsWantedSince lane rules line o from e K → IsRunSince lane rules line o from J (e ∷ K)

abbrev pub IsEndSince : Low → Rules → ℕ → Operation → Journal → List LaneEvent → Outcome → Type 0
IsEndSince lane rules line o from J outcome = WantsSince lane rules line o from J (Ends outcome)

abbrev pub IsCutRunSince : Low → Rules → ℕ → Operation → Journal → List LaneEvent → List LaneEvent → Type 0
IsCutRunSince lane rules line o from J K = (L : List LaneEvent) × IsRunSince lane rules line o from J L × ((K ≡ L) ⊎ IsCutRound lane L K)
