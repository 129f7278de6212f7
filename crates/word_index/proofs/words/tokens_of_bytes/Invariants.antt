use Rattle.std.proofs.Common.{◌≡◌, ◌++◌, length}
use Rattle.std.specs.List.{position_or_len}
use Rattle.word_index.specs.Tokens.{separates, tokens_of}
use Rattle.word_index.proofs.words.tokens_of_bytes.Given as goal

-- the tokens so far and those of the rest are all
abbrev pub invariant-loop-end : goal.invariant-loop-end
invariant-loop-end l = (l.tokens.items ++ tokens_of l.rest ≡ tokens_of l.bytes) × (l.end ≡ position_or_len separates l.rest)

abbrev pub decreases-loop-end : goal.decreases-loop-end
decreases-loop-end l = length l.rest
