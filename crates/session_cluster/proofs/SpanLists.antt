-- The spans that were noted of lines.
use Rattle.std.proofs.Common.{◌≡◌, ◌≢◌, ◌≤◌, ℕ, Bool, List, [], ◌∷◌, ◌++◌, None, Some, length}
use Rattle.std.proofs.lemmas.List.Sums.{count_by-le-length}
use Rattle.lane_lives.specs.declared.spans.UpkeepSpan.{UpkeepSpan}
use Rattle.upkeep_spans.specs.declared.answers.Upkeep.{Upkeep}
use Rattle.session_cluster.specs.Spans.{spans_of, count_of}
use Rattle.session_cluster.specs.declared.cluster.LineSpans.{LineSpans}
use Rattle.session_cluster.proofs.NotedLists.{noted_other, noted_own}

-- with those of one line more, another line has the same
pub spans_other : (line : ℕ) (us : List LineSpans) (u : LineSpans) → u.line ≢ line → spans_of line (us ++ u ∷ []) ≡ spans_of line us
spans_other line us u other = noted_other (λ (x : LineSpans). x.line) (λ (x : LineSpans). x.spans) line us u other

-- and that line has these, where it had none
pub spans_own : (line : ℕ) (us : List LineSpans) (u : LineSpans) → u.line ≡ line → spans_of line us ≡ None → spans_of line (us ++ u ∷ []) ≡ Some u.spans
spans_own line us u own none = noted_own (λ (x : LineSpans). x.line) (λ (x : LineSpans). x.spans) line us u own none

-- no more are of a kind than there are
pub few_of : (is : Upkeep → Bool) (spans : List UpkeepSpan) → count_of is spans ≤ length spans
few_of is spans = count_by-le-length (λ (s : UpkeepSpan). is s.answer) spans
