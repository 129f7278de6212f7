use Rattle.std.proofs.Common.{◌≡◌, ℕ, ◌<◌, List, slice_index_or}
use Rattle.doc_types.proofs.values.same_texts.Given as goal

-- the texts so far are the same
abbrev pub invariant-loop-at : goal.invariant-loop-at
invariant-loop-at l = (k : ℕ) (d : List ℕ) → k < l.at → slice_index_or l.one k d ≡ slice_index_or l.two k d
