-- What lies behind a lane's lock, as its users see it: the lane's number, and the lane.
use Rattle.std.specs.Prelude.{◌≡◌, ℕ, List, [], false, refl}
use Rattle.std.specs.FinMap as fin
use Rattle.std.specs.Coded.{Coded, code_by, coded×, coded_ℕ}
use Rattle.view_changes.specs.Opening.{opening}
use Rattle.view_changes.specs.Views.{View}
use Rattle.lane_calls.specs.LaneValues.{LaneValue, new_value}
use Rattle.lane_calls.specs.Lines.{Lines}
use Rattle.lane_core.specs.Shelved.{Shelved, shelved_code}
use Rattle.lane_locks.specs.declared.lines.Line.{Line}
use Rattle.lane_locks.specs.declared.lines.Stage.{Stage}
use Rattle.lane_locks.specs.Lines.{lines_of, AreLines, AreOfLane}
use Rattle.lane_locks.specs.Served.{IsRunSoFar}

pub record Behind (H : Type 0) : Type 0 where
  pub number : ℕ
  pub lane : Shelved H

abbrev pub behind_code : {H : Type 0} → Coded H → Coded (Behind H)
behind_code {H} d = code_by (ℕ × Shelved H) (coded× coded_ℕ (shelved_code d)) (λ b. (b.number, b.lane)) (λ p. record { number = p.0; lane = p.1 }) (λ _. refl)

-- these are the lines of the segment there, whose lane was served so far
pub record IsKept (feeders : ℕ) (lines : Lines) (first v : LaneValue) (ls : List Line) (stages : List Stage) : Type 0 where
  pub lines_are : lines_of ls ≡ lines
  pub are : AreLines feeders ls
  pub of_lane : AreOfLane first lines
  pub served : IsRunSoFar feeders lines first v ls stages

-- the value of a lane of no documents in which nothing happened
abbrev pub nothing : LaneValue
nothing = new_value (record { bits = 0; low = 0 }) (record { redundancy = 1; acks = 1; searchable = 1; split_at = 1 }) fin.empty [] [] false

-- a view of documents of no type, of which nothing was heard
abbrev pub no_view : View
no_view = opening fin.empty
