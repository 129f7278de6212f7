use Rattle.std.proofs.Common.{◌-◌, ◌≤◌, length, take}
use Rattle.text_scanners.specs.Refusals.{Begins}
use Rattle.text_scanners.proofs.scanning.scan.Given as goal

-- the letters so far were read, and begin a text
abbrev pub invariant-loop-offset : goal.invariant-loop-offset
invariant-loop-offset g l =
    (l.offset ≤ length l.letters)
    × (g.S.Scanner.reached l.state (take l.offset l.letters)
    × Begins g.S.Scanner.language (take l.offset l.letters))

abbrev pub decreases-loop-offset : goal.decreases-loop-offset
decreases-loop-offset g l = length l.letters - l.offset
