-- The bytes that answer the lines, read off the lanes, the spans of upkeep and the fronts of searches.
use Rattle.std.specs.Prelude.{ℕ, suc, List, [], ◌∷◌, ◌++◌, length, Option, None, Some, slice_get}
use Rattle.stamps.specs.declared.stamp.Stamp.{Stamp}
use Rattle.cluster_states.specs.Publishing.{Told, publish_fault}
use Rattle.cluster_states.specs.declared.cluster_state.ClusterState.{ClusterState}
use Rattle.cluster_states.specs.declared.states.PublishFault.{PublishFault}
use Rattle.cluster_states.specs.declared.states.PublishFault.TheVariants as fault
use Rattle.doc_types.specs.SchemaCodes.{Types}
use Rattle.documents.specs.Fields.{Contents}
use Rattle.documents.specs.declared.entry.Entry.{Entry}
use Rattle.session_cluster.specs.declared.asked.Asked.{Asked}
use Rattle.session_cluster.specs.declared.asked.Asked.TheVariants as command
use Rattle.lane_calls.specs.LaneValues.{LaneValue}
use Rattle.lane_journals.specs.Meanings.{entry_at}
use Rattle.lane_lives.specs.declared.setting.Setting.{Setting}
use Rattle.lane_calls.specs.Readings.{outcome_in}
use Rattle.messages.specs.declared.outcome.Outcome.{Outcome}
use Rattle.messages.specs.declared.outcome.Outcome.TheVariants as outcome
use Rattle.query_text.specs.Grammar.{Said}
use Rattle.reports.specs.ReportText.{report_text}
use Rattle.reports.specs.declared.answer.Answer.{Answer}
use Rattle.reports.specs.declared.answer.Answer.TheVariants as answer
use Rattle.search_views.specs.Answers.{search_answer}
use Rattle.session_cluster.specs.Cells.{Cell, journals}
use Rattle.session_cluster.specs.Deeds.{first_told, told_next}
use Rattle.session_cluster.specs.Lanes.{Journal, lane_of_id, journal_in}
use Rattle.session_cluster.specs.Searches.{fronts_of, views_to, version_now}
use Rattle.session_cluster.specs.Spans.{spans_of, is_rested, is_blocked, is_disturbed, count_of}
use Rattle.lane_lives.specs.declared.spans.UpkeepSpan.{UpkeepSpan}

-- a found document is that of the entry with the stamp
abbrev pub body_answer : List ℕ → Option Contents → Stamp → Option Answer
body_answer id None stamp = None
body_answer id (Some document) stamp = Some (answer.Found id document stamp)

abbrev pub found_answer : Option Entry → Stamp → Option Answer
found_answer None stamp = None
found_answer (Some entry) stamp = body_answer entry.id entry.body stamp

-- the answer that an outcome is, by the entry that it speaks of
abbrev pub outcome_answer : Outcome → Option Entry → Option Answer
outcome_answer (outcome.Acked stamp) entry = Some (answer.Acked stamp)
outcome_answer (outcome.Found stamp) entry = found_answer entry stamp
outcome_answer (outcome.Missing seen) entry = Some (answer.Missing seen)
outcome_answer (outcome.Nothing seen) entry = Some answer.Nothing
outcome_answer (outcome.ConditionFailed seen) entry = Some (answer.ConditionFailed seen)
outcome_answer (outcome.BadUpdate fault) entry = Some (answer.BadUpdate fault)
outcome_answer (outcome.TooFew answered needed absent) entry = Some (answer.TooFew answered needed absent)
outcome_answer (outcome.OwnedElsewhere owner version) entry = Some (answer.OwnedElsewhere owner version)
outcome_answer outcome.NoMemory entry = Some answer.NoMemory

-- the entry that an outcome speaks of: what was written with the stamp that was found
abbrev pub entry_of : Outcome → Journal → Option Entry
entry_of (outcome.Acked stamp) J = None
entry_of (outcome.Found stamp) J = entry_at stamp J
entry_of (outcome.Missing seen) J = None
entry_of (outcome.Nothing seen) J = None
entry_of (outcome.ConditionFailed seen) J = None
entry_of (outcome.BadUpdate fault) J = None
entry_of (outcome.TooFew answered needed absent) J = None
entry_of (outcome.OwnedElsewhere owner version) J = None
entry_of outcome.NoMemory J = None

-- the answer that a line's closing is
abbrev pub closed_answer : Option Outcome → Journal → Option Answer
closed_answer None J = None
closed_answer (Some ending) J = outcome_answer ending (entry_of ending J)

-- the answer of an operation, by the journal of its lane
abbrev pub operation_answer : Setting → ℕ → List ℕ → List Journal → Option Answer
operation_answer s line id Js = let J = journal_in (lane_of_id s.bits id) Js in closed_answer (outcome_in line J) J

-- why a state isn't published; a session has room for all states that are told
abbrev pub fault_answer : PublishFault → Option Answer
fault_answer (fault.NotNewer have) = Some (answer.NotNewer have)
fault_answer fault.NoDistributor = Some answer.NoDistributor
fault_answer (fault.TooFewUp up acks) = Some (answer.TooFewUp up acks)
fault_answer (fault.TooManyOut out acks) = Some (answer.TooManyOut out acks)
fault_answer fault.TooManyStates = None

abbrev pub state_answer : Option PublishFault → ClusterState → Option Answer
state_answer None state = Some (answer.Published state.version)
state_answer (Some why) state = fault_answer why

-- whether the carrier of a lane takes plans
abbrev pub plan_answer : Option LaneValue → Option Answer
plan_answer None = None
plan_answer (Some v) = Some (answer.Planned v.takes_plans)

-- how the upkeep of a line went in the lanes
abbrev pub upkeep_answer : Option (List UpkeepSpan) → Option Answer
upkeep_answer None = None
upkeep_answer (Some spans) = Some (answer.Maintained (length spans) (count_of is_rested spans) (count_of is_blocked spans) (count_of is_disturbed spans))

-- what a search finds under the state that was told last, in the views to which it read
abbrev pub found_answer_of : Types → Told → Said → Option (List ℕ) → List Journal → Option Answer
found_answer_of types told q None Js = None
found_answer_of types told q (Some fronts) Js = Some (answer.Search (search_answer q (version_now told) (views_to types fronts Js)))

-- the answer of a line, where these states are told before it; a blank line has none
abbrev pub answer_in : Setting → Told → ℕ → Asked → Cell → Option Answer
answer_in s told line command.Blank cell = None
answer_in s told line command.TooLong cell = Some answer.TooLong
answer_in s told line command.Barrier cell = Some answer.Barrier
answer_in s told line (command.Bad why) cell = Some (answer.BadLine why)
answer_in s told line (command.Feed op via) cell = operation_answer s line op.id (journals cell.lanes)
answer_in s told line (command.State state deaf) cell = state_answer (publish_fault told state) state
answer_in s told line (command.BadState offset) cell = Some (answer.BadState offset)
answer_in s told line (command.Stop node) cell = Some (answer.Stopped node)
answer_in s told line (command.Start node) cell = Some (answer.Started node)
answer_in s told line (command.Net lane fates) cell = plan_answer (slice_get cell.lanes lane)
answer_in s told line command.Maintain cell = upkeep_answer (spans_of line cell.upkeeps)
answer_in s told line (command.Search q) cell = found_answer_of s.schema told q (fronts_of line cell.fronts) (journals cell.lanes)
answer_in s told line (command.BadQuery offset) cell = Some (answer.BadQuery offset)

-- the report of what may be an answer
abbrev pub bytes_of : ℕ → Option Answer → List ℕ
bytes_of line None = []
bytes_of line (Some a) = report_text line a

abbrev pub report_in : Setting → Told → ℕ → Asked → Cell → List ℕ
report_in s told line c cell = bytes_of line (answer_in s told line c cell)

-- the reports of lines from a number on, in order
abbrev pub output_from : Setting → Told → ℕ → List Asked → Cell → List ℕ
output_from s told line [] cell = []
output_from s told line (c ∷ commands) cell = report_in s told line c cell ++ output_from s (told_next c told) (suc line) commands cell

-- the reports of the first lines
abbrev pub output_of : Setting → List Asked → Cell → List ℕ
output_of s commands cell = output_from s (first_told s) 1 commands cell
