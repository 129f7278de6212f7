use Rattle.std.proofs.Common.{◌≡◌, List, ℕ, take, cond}
use Rattle.local_ids.specs.Rising.{moved_local}
use Rattle.word_index.specs.Index.{list_of}
use Rattle.field_indexes.specs.Words.{has_word}
use Rattle.field_indexes.proofs.word_lists.move_words.Given as goal

abbrev pub invariant-loop-at : goal.invariant-loop-at
invariant-loop-at l = (word : List ℕ) → list_of word l.words ≡ cond (has_word word (take l.at l.tokens)) (moved_local l.from l.to (list_of word l.initial.words)) (list_of word l.initial.words)
