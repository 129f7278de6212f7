use Rattle.std.proofs.Common.{◌≡◌, ◌++◌, take, string_bytes}
use Rattle.cluster_states.specs.StateTexts.{marks_text}
use Rattle.cluster_states.proofs.texts.push_marks.Given as goal

-- the marks of the numbers so far are written
abbrev pub invariant-loop-number : goal.invariant-loop-number
invariant-loop-number l = string_bytes l.text ≡ string_bytes l.initial.text ++ marks_text l.role 0 (take l.number l.marks)
