use Rattle.std.proofs.Common.{◌≡◌, ℕ, ◌<◌, ℤ, slice_index_or}
use Rattle.doc_types.proofs.values.same_numbers.Given as goal

-- the numbers so far are the same
abbrev pub invariant-loop-at : goal.invariant-loop-at
invariant-loop-at l = (k : ℕ) (d : ℤ) → k < l.at → slice_index_or l.one k d ≡ slice_index_or l.two k d
