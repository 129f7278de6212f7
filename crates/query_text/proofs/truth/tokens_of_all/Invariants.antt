use Rattle.std.proofs.Common.{◌≡◌, map, take}
use Rattle.word_index.specs.Tokens.{tokens_of}
use Rattle.query_text.proofs.truth.tokens_of_all.Given as goal

-- the lists so far are the tokens of the texts so far
abbrev pub invariant-loop-text : goal.invariant-loop-text
invariant-loop-text l = l.lists.items ≡ map tokens_of (take l.text-index l.texts)
