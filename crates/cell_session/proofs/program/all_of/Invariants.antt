use Rattle.std.proofs.Common.{◌≡◌, ◌++◌, length}
use Rattle.std.specs.Vec.Iter.{into_iter_items, into_iter_len}
use Rattle.cell_session.proofs.program.all_of.Given as goal

-- those taken and those still to come are all of them
abbrev pub invariant-loop-word : goal.invariant-loop-word
invariant-loop-word l = (l.texts.items ++ into_iter_items l.word-iterator ≡ into_iter_items l.initial.word-iterator)
    × (into_iter_len l.word-iterator ≡ length (into_iter_items l.word-iterator))
