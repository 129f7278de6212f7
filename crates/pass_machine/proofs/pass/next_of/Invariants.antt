use Rattle.std.proofs.Common.{length}
use Rattle.distributor_part.specs.Parts.{rows_of}
use Rattle.pass_machine.specs.Turns.{View, Sees}
use Rattle.pass_machine.specs.Going.{GoesOver, left}
use Rattle.pass_machine.proofs.pass.next_of.Given as goal

abbrev pub invariant-loop-next : goal.invariant-loop-next
invariant-loop-next l = (v : View) → Sees l.part v → GoesOver v l.made l.notes.by_number l.fn.doing l.doing

abbrev pub decreases-loop-next : goal.decreases-loop-next
decreases-loop-next l = left (length (rows_of l.part.rows)) (length (rows_of l.part.rows)) l.doing
