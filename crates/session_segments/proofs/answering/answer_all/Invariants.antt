use Rattle.std.proofs.Common.{◌≡◌, ◌+◌, ℕ, List, length}
use Rattle.std.specs.Vec.Iter.{into_iter_items, into_iter_len}
use Rattle.lane_calls.specs.Lines.{Lines}
use Rattle.lane_lives.specs.declared.setting.Setting.{Setting}
use Rattle.session_cluster.specs.Steps.{AreSettled}
use Rattle.session_cluster.specs.declared.asked.Asked.{Asked}
use Rattle.session_segments.specs.Sorted.{MayBeAnswered, AreDue, AreAnsweredSoFar, IsUnread}
use Rattle.session_segments.proofs.answering.answer_all.Given as goal

-- the lines so far are answered, the others are due, and nothing else changed
abbrev pub invariant-loop-due : goal.invariant-loop-due
invariant-loop-due g l =
    ((s : Setting) (lines : ℕ → Lines) (cs : List Asked) → MayBeAnswered s lines l.stages l.fn.session.cell → AreDue s lines l.first cs l.fn.dues.items
    → AreAnsweredSoFar s lines l.first cs (into_iter_items l.due-iterator) l.fn.session.cell l.session.cell l.answers.items)
    × AreSettled l.session
    × (l.session.cell.lanes ≡ l.fn.session.cell.lanes)
    × IsUnread l.line l.session.cell
    × (l.line + length (into_iter_items l.due-iterator) ≡ l.first + length l.fn.dues.items)
    × (into_iter_len l.due-iterator ≡ length (into_iter_items l.due-iterator))
