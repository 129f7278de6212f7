-- Which reports of lines reached the sink.
use Rattle.std.specs.Prelude.{◌≡◌, ◌≢◌, ℕ, suc, ◌+◌, List, [], ◌∷◌, ◌++◌, length, Option}
use Rattle.std.specs.Io.KnownBytes.{Appends, Keeps}
use Rattle.io_ends.specs.Causes.{AppendsFront}
use Rattle.reports.specs.declared.answer.Answer.{Answer}
use Rattle.session_cluster.specs.Output.{bytes_of}
use Rattle.cell_session.specs.declared.answering.Stop.{Stop}
use Rattle.cell_session.specs.declared.answering.Stop.TheVariants as stop

-- ---- of one line

-- a fault leaves a front of the report, want of memory nothing
abbrev pub LeavesFront : Stop → List ℕ → Option (List ℕ) → Option (List ℕ) → Type 0
LeavesFront stop.Fault bytes before now = AppendsFront before now bytes
LeavesFront stop.Memory bytes before now = Keeps before now

-- ---- of lines in order

-- the reports of these answers, of which the first is that of the line of this number
abbrev pub reports_from : ℕ → List (Option Answer) → List ℕ
reports_from line [] = []
reports_from line (answer ∷ answers) = bytes_of line answer ++ reports_from (suc line) answers

-- the sink took the reports of some first ones
pub record TakesReports (line : ℕ) (answers : List (Option Answer)) (before now : Option (List ℕ)) : Type 0 where
  pub earlier : List (Option Answer)
  pub later : List (Option Answer)
  pub all : answers ≡ earlier ++ later
  pub output : Appends before now (reports_from line earlier)

-- and a front of the next one's
pub record TakesReportsFront (line : ℕ) (answers : List (Option Answer)) (before now : Option (List ℕ)) : Type 0 where
  pub earlier : List (Option Answer)
  pub last : Option Answer
  pub later : List (Option Answer)
  pub all : answers ≡ earlier ++ last ∷ later
  pub front : List ℕ
  pub rest : List ℕ
  pub cut : rest ≢ []
  pub report : bytes_of (line + length earlier) last ≡ front ++ rest
  pub output : Appends before now (reports_from line earlier ++ front)

-- a fault leaves a front of one of them behind the earlier ones, want of memory some first ones
abbrev pub LeavesSome : Stop → ℕ → List (Option Answer) → Option (List ℕ) → Option (List ℕ) → Type 0
LeavesSome stop.Fault line answers before now = TakesReportsFront line answers before now
LeavesSome stop.Memory line answers before now = TakesReports line answers before now
