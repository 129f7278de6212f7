-- What a session reads of the lines of a segment, and of what comes behind them.
use Rattle.std.specs.Prelude.{◌≡◌, ◌<◌, ◌≤◌, ℕ, true, List, ◌++◌, length, Option, None, Some}
use Rattle.io_ends.specs.Reading.{Reading, StandsIn, Grows}
use Rattle.doc_types.specs.SchemaCodes.{Types}
use Rattle.session_cluster.specs.declared.asked.Asked.{Asked}
use Rattle.session_segments.specs.Parts.{cuts, most_together, IsFull}
use Rattle.cell_session.specs.Ends.{IfTold}
use Rattle.cell_session.specs.Limits.{most_lines, most_bytes}
use Rattle.cell_session.specs.Reads.{Advances, Shows, CausedBySource, IsOwnStep}
use Rattle.cell_session.specs.SoFar.{IsBehind}
use Rattle.cell_session.specs.declared.next_command.Step.{Step}
use Rattle.cell_session.specs.declared.next_command.Step.TheVariants as step

-- the reader went on over lines that asked for these commands, whatever lines it stood behind
pub record ReadsOn (types : Types) (bits : ℕ) (old new : Reading) (left now : Option (List ℕ)) (commands : List Asked) : Type 0 where
  pub grows : Grows old new (length commands)
  pub few : old.lines ≤ old.max_lines → new.lines ≤ new.max_lines
  pub behind : (text : Option (List ℕ)) (earlier : List Asked) → length earlier ≡ old.lines → old.max_lines ≡ most_lines → old.max_bytes ≡ most_bytes
      → IfTold text (IsBehind types bits old left earlier) → IfTold text (IsBehind types bits new now (earlier ++ commands))

-- from where it stood it took this step
pub record TakesStep (types : Types) (bits : ℕ) (old new : Reading) (left now : Option (List ℕ)) (next : Step) : Type 0 where
  pub advances : Advances old new next
  pub shows : (text : List ℕ) → StandsIn text old left → Shows types bits text old next
  pub stands : (text : List ℕ) → StandsIn text old left → StandsIn text new now

-- the step behind the lines of a segment, if there is one
abbrev pub TakesNext : Types → ℕ → Reading → Reading → Option (List ℕ) → Option (List ℕ) → Option Step → Type 0
TakesNext types bits old new left now None = (new ≡ old) × (now ≡ left)
TakesNext types bits old new left now (Some next) = TakesStep types bits old new left now next

-- it went on over the lines of a segment, and took this step behind them
pub record ReadsSegment (types : Types) (bits : ℕ) (old new : Reading) (left now : Option (List ℕ)) (commands : List Asked) (next : Option Step) : Type 0 where
  -- where it stood between, and what the source had left then
  pub mid : Reading
  pub between : Option (List ℕ)
  pub lines : ReadsOn types bits old mid left between commands
  pub step : TakesNext types bits mid new between now next

-- a command that comes behind a segment ends it, and where nothing does no line more is dealt with together
abbrev pub IsCutBy : List Asked → Option Step → Type 0
IsCutBy commands None = IsFull commands
IsCutBy commands (Some (step.Command number command)) = (length commands < most_together) × (cuts command ≡ true)
IsCutBy commands (Some (step.Over end)) = length commands < most_together

abbrev pub IsOwnBehind : ℕ → Option Step → Type 0
IsOwnBehind bits None = Unit {0}
IsOwnBehind bits (Some next) = IsOwnStep bits next

abbrev pub CausedBehind : Option Step → Option ℕ → ℕ → ℕ → Type 0
CausedBehind None last before now = Unit {0}
CausedBehind (Some next) last before now = CausedBySource next last before now
