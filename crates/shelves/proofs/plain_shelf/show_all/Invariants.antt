use Rattle.std.specs.VecDeque.{deque_len}
use Rattle.shelves.specs.Plain.{ShowsPart}
use Rattle.shelves.proofs.plain_shelf.show_all.Given as goal

abbrev pub invariant-loop-change : goal.invariant-loop-change
invariant-loop-change l = ShowsPart l.initial.view l.view l.initial.pending.items l.pending.items

abbrev pub decreases-loop-change : goal.decreases-loop-change
decreases-loop-change l = deque_len l.pending
