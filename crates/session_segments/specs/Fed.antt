-- What a segment makes of the cluster, and what its lines are answered.
use Rattle.std.specs.Prelude.{◌≡◌, ◌⊎◌, ℕ, suc, ◌+◌, List, [], ◌∷◌, ◌++◌, length, take, Option, None, Some, IsSome, slice_get}
use Rattle.carriers.specs.declared.fate.Fate.{Fate}
use Rattle.cluster_states.specs.Publishing.{Told}
use Rattle.lane_journals.specs.declared.event.LaneEvent.{LaneEvent}
use Rattle.messages.specs.declared.outcome.Outcome.{Outcome}
use Rattle.reports.specs.declared.answer.Answer.{Answer}
use Rattle.lane_calls.specs.LaneValues.{LaneValue}
use Rattle.lane_calls.specs.Lines.{FeedLine, Lines}
use Rattle.lane_calls.specs.Readings.{outcome_in}
use Rattle.lane_calls.specs.Segments.{IsAmong, IsSegment}
use Rattle.lane_lives.specs.declared.setting.Setting.{Setting}
use Rattle.session_cluster.specs.Cells.{Cell}
use Rattle.session_cluster.specs.Keeping.{HaveDone}
use Rattle.session_cluster.specs.Output.{answer_in}
use Rattle.session_cluster.specs.Searches.{fronts_now}
use Rattle.session_cluster.specs.declared.asked.Asked.{Asked}
use Rattle.session_cluster.specs.declared.asked.Asked.TheVariants as command
use Rattle.session_cluster.specs.declared.searching.LineFronts.{LineFronts}
use Rattle.session_segments.specs.FedDeeds.{fed_lines, fed_deeds}
use Rattle.session_segments.specs.Parts.{Part, asked_in}

-- ---- in a lane

-- it came by calls for these lines to what it is, no operation is under way there, and each line has its outcome but those left
pub record IsFedIn (feeders : ℕ) (lines left : Lines) (v w : LaneValue) : Type 0 where
  pub segment : IsSegment feeders lines v w
  pub idle : w.under_way ≡ []
  pub answered : (line : FeedLine) → IsAmong lines line → IsAmong left line ⊎ IsSome (outcome_in line.number w.journal)

-- ---- its searches

-- a line that searches read so far
abbrev pub front_of : ℕ → Asked → List ℕ → List LineFronts
front_of line (command.Search query) fronts = record { line = line; fronts = fronts } ∷ []
front_of line _ fronts = []

-- each of these lines that does, in order; the first one has this number
abbrev pub fronts_from : ℕ → List Asked → List ℕ → List LineFronts
fronts_from line [] fronts = []
fronts_from line (c ∷ cs) fronts = front_of line c fronts ++ fronts_from (suc line) cs fronts

-- ---- in the cluster

-- each lane was fed with its lines of the segment, but for these that are left
pub record AreFedIn (s : Setting) (feeders line : ℕ) (cs : List Asked) (left : ℕ → Lines) (old new : Cell) : Type 0 where
  pub count : length new.lanes ≡ length old.lanes
  pub each : (lane : ℕ) (v w : LaneValue) → slice_get old.lanes lane ≡ Some v → slice_get new.lanes lane ≡ Some w
      → IsFedIn feeders (fed_lines s lane line cs []) (left lane) v w

-- the lines were dealt with, and nothing else changed; the searches of the first of them read to the end of each lane's
-- journal behind the segment
abbrev pub AreDealt : ℕ → List Asked → List Asked → Cell → Cell → Type 0
AreDealt line first cs old new = new ≡ record old {
  lanes = new.lanes;
  dealt = old.dealt + length cs;
  fronts = old.fronts ++ fronts_from line first (fronts_now new.lanes);
}

-- the segment ran in all lanes, and its searches read behind it
pub record IsFed (s : Setting) (feeders line : ℕ) (cs : List Asked) (left : ℕ → Lines) (old new : Cell) : Type 0 where
  pub lanes : AreFedIn s feeders line cs left old new
  pub now : AreDealt line cs cs old new

-- those of the lines that have no outcome in a journal
abbrev pub left_by : Option Outcome → FeedLine → Lines → Lines
left_by None line lines = line ∷ lines
left_by (Some outcome) line lines = lines

abbrev pub left_in : List LaneEvent → Lines → Lines
left_in J [] = []
left_in J (line ∷ lines) = left_by (outcome_in line.number J) line (left_in J lines)

-- the same, where memory was wanted: perhaps some lines are left, and some searches weren't made
pub record IsFedShort (s : Setting) (feeders line : ℕ) (cs : List Asked) (old new : Cell) : Type 0 where
  pub left : ℕ → Lines
  pub left_are : (lane : ℕ) (w : LaneValue) → slice_get new.lanes lane ≡ Some w → left lane ≡ left_in w.journal (fed_lines s lane line cs [])
  pub lanes : AreFedIn s feeders line cs left old new
  pub searched : ℕ
  pub now : AreDealt line (take searched cs) cs old new

-- what the lines are answered, in order, where these states are told; the first has this number
abbrev pub answers_from : Setting → Told → ℕ → List Asked → Cell → List (Option Answer)
answers_from s told line [] cell = []
answers_from s told line (c ∷ cs) cell = answer_in s told line c cell ∷ answers_from s told (suc line) cs cell

-- ---- between two parts

-- just these parts were done, where so many feeders run each segment
abbrev pub HaveFed : Setting → (ℕ → List Fate) → ℕ → List Part → Cell → Type 0
HaveFed s plans feeders ps c = HaveDone s plans (asked_in ps) (λ lane. fed_deeds s c.upkeeps feeders lane ps) c
