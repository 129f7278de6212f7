use Rattle.std.proofs.Common.{◌≡◌, ◌++◌, drop}
use Rattle.std.specs.VecDeque.{deque_len}
use Rattle.generation_guard.specs.Faces.{changes_in}
use Rattle.generation_guard.proofs.shared_shelf.hand_over.Given as goal

abbrev pub invariant-loop-change : goal.invariant-loop-change
invariant-loop-change l = (l.writer.desk ≡ l.initial.writer.desk)
    × (changes_in (drop l.writer.behind l.writer.log.items) ++ l.queue.items ≡ changes_in (drop l.initial.writer.behind l.initial.writer.log.items) ++ l.initial.queue.items)

abbrev pub decreases-loop-change : goal.decreases-loop-change
decreases-loop-change l = deque_len l.queue
