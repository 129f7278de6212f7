-- What a line is answered behind a lock.
use Rattle.std.specs.Prelude.{Bool, true, false}
use Rattle.line_feeders.specs.declared.turns.Went.{Went}
use Rattle.line_feeders.specs.declared.turns.Went.TheVariants as went

-- another line stands against it
abbrev pub waits : Went → Bool
waits went.On = false
waits went.Waits = true
waits went.Ends = false
waits went.Over = false
waits went.Left = false
