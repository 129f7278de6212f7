-- How the upkeep went that lines asked for.
use Rattle.std.specs.Prelude.{ℕ, Bool, true, false, List, Option, option_and_then, slice_get}
use Rattle.std.specs.List.{count_by}
use Rattle.upkeep_spans.specs.declared.answers.Upkeep.{Upkeep}
use Rattle.upkeep_spans.specs.declared.answers.Upkeep.TheVariants.{Rested, Blocked, Disturbed}
use Rattle.lane_lives.specs.declared.spans.UpkeepSpan.{UpkeepSpan}
use Rattle.carriers.specs.declared.fate.Fate.{Fate}
use Rattle.lane_core.specs.Passes.{MakesPass}
use Rattle.lane_journals.specs.declared.event.LaneEvent.{LaneEvent}
use Rattle.lane_lives.specs.Serving.{bucket_in}
use Rattle.lane_lives.specs.declared.setting.Setting.{Setting}
use Rattle.session_cluster.specs.Noted.{noted_of}
use Rattle.session_cluster.specs.declared.cluster.LineSpans.{LineSpans}

-- the spans of a line that asked for upkeep and was answered
abbrev pub spans_of : ℕ → List LineSpans → Option (List UpkeepSpan)
spans_of line us = noted_of (λ (u : LineSpans). u.line) (λ (u : LineSpans). u.spans) line us

-- that of a lane among them
abbrev pub span_in : ℕ → ℕ → List LineSpans → Option UpkeepSpan
span_in lane line us = option_and_then (λ spans. slice_get spans lane) (spans_of line us)

abbrev pub is_rested : Upkeep → Bool
is_rested Rested = true
is_rested _ = false

abbrev pub is_blocked : Upkeep → Bool
is_blocked (Blocked absent) = true
is_blocked _ = false

abbrev pub is_disturbed : Upkeep → Bool
is_disturbed (Disturbed message) = true
is_disturbed _ = false

-- in how many lanes the answer is of a kind
abbrev pub count_of : (Upkeep → Bool) → List UpkeepSpan → ℕ
count_of is spans = count_by (λ (s : UpkeepSpan). is s.answer) spans

-- a pass that led a lane from one journal to another went in the order of its rule, whatever was lost; the carrier had given
-- these fates as it ended
abbrev pub PassesInOrder : Setting → ℕ → List LaneEvent → List LaneEvent → List Fate → Type 0
PassesInOrder s lane J K now = MakesPass (bucket_in s lane) s.rules J K now
