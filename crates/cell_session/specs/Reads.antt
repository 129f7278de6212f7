-- What a session reads.
use Rattle.std.specs.Prelude.{◌≡◌, ℕ, ◌+◌, ◌≤◌, List, length, Option, Some, slice_get}
use Rattle.io_ends.specs.Causes.{HasRisen}
use Rattle.io_ends.specs.Lines.{lines_of, NoLineFeed}
use Rattle.io_ends.specs.Reading.{Reading, Grows, IsLittle, IsAtLimit, IsWithin, Reaches, CameLast}
use Rattle.doc_types.specs.SchemaCodes.{Types}
use Rattle.session_cluster.specs.Asking.{IsAsked, IsOwnAsked}
use Rattle.cell_session.specs.declared.next_command.Step.{Step}
use Rattle.cell_session.specs.declared.next_command.Step.TheVariants as step
use Rattle.cell_session.specs.declared.status.Status.{Status}
use Rattle.cell_session.specs.declared.status.Status.TheVariants as status

-- after a fault no line is given, and what lies ahead is no whole line; a limit of the reader is reached
abbrev pub HoldsBack : Reading → Reading → Status → Type 0
HoldsBack old new status.ReadFault = (new.lines ≡ old.lines) × NoLineFeed new.ahead
HoldsBack old new status.Done = Unit {0}
HoldsBack old new (status.Limit which) = IsAtLimit which old
HoldsBack old new status.NoMemory = Unit {0}
HoldsBack old new status.Usage = Unit {0}
HoldsBack old new status.WriteFault = Unit {0}

-- a command is that of the next line by number, and the source was read no further than the piece in
-- which the line ends
pub record TakesLine (old new : Reading) (number : ℕ) : Type 0 where
  pub numbered : number ≡ old.lines + 1
  pub grows : Grows old new 1
  pub few : new.lines ≤ new.max_lines
  pub little : IsLittle new

abbrev pub Advances : Reading → Reading → Step → Type 0
Advances old new (step.Command number command) = TakesLine old new number
Advances old new (step.Over end) = HoldsBack old new end

-- where a command is that of a line, no call of the source came after the one that gave the line's end
abbrev pub EndsRead : ℕ → List ℕ → Reading → Reading → Step → Type 0
EndsRead gave text old new (step.Command number command) = CameLast gave text old.given (new.passed + length new.ahead)
EndsRead gave text old new (step.Over end) = Unit {0}

-- what an end says of the text in which the reader stood
abbrev pub Finishes : List ℕ → Reading → Status → Type 0
Finishes text old status.Done = length (lines_of text) ≡ old.lines
Finishes text old (status.Limit which) = Reaches text old which
Finishes text old status.ReadFault = Unit {0}
Finishes text old status.NoMemory = Unit {0}
Finishes text old status.Usage = ⊥
Finishes text old status.WriteFault = ⊥

-- the command is that of the text's next line under a schema, which ends within the limits
abbrev pub Shows : Types → ℕ → List ℕ → Reading → Step → Type 0
Shows types bits text old (step.Command number command) =
    ((bytes : List ℕ) × ((slice_get (lines_of text) old.lines ≡ Some bytes) × IsAsked types bits bytes command))
    × IsWithin text old
Shows types bits text old (step.Over end) = Finishes text old end

-- a command of a step is one that may be dealt with
abbrev pub IsOwnStep : ℕ → Step → Type 0
IsOwnStep bits (step.Command number command) = IsOwnAsked bits command
IsOwnStep bits (step.Over end) = Unit {0}

-- an end that may come of reading; a fault of the source only where its count rose
abbrev pub IsReadEnd : Status → Option ℕ → ℕ → ℕ → Type 0
IsReadEnd status.Done last before now = Unit {0}
IsReadEnd (status.Limit which) last before now = Unit {0}
IsReadEnd status.ReadFault last before now = HasRisen last before now
IsReadEnd status.NoMemory last before now = Unit {0}
IsReadEnd status.Usage last before now = ⊥
IsReadEnd status.WriteFault last before now = ⊥

abbrev pub CausedBySource : Step → Option ℕ → ℕ → ℕ → Type 0
CausedBySource (step.Command number command) last before now = Unit {0}
CausedBySource (step.Over end) last before now = IsReadEnd end last before now

-- the command of these bytes under a schema, or want of memory
abbrev pub IsOfLine : Types → ℕ → Step → ℕ → List ℕ → Type 0
IsOfLine types bits (step.Command n command) number bytes = (n ≡ number) × IsAsked types bits bytes command
IsOfLine types bits (step.Over status.NoMemory) number bytes = Unit {0}
IsOfLine types bits (step.Over status.Done) number bytes = ⊥
IsOfLine types bits (step.Over status.ReadFault) number bytes = ⊥
IsOfLine types bits (step.Over status.WriteFault) number bytes = ⊥
IsOfLine types bits (step.Over status.Usage) number bytes = ⊥
IsOfLine types bits (step.Over (status.Limit which)) number bytes = ⊥
