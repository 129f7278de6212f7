use Rattle.std.proofs.Common.{◌≡◌, take}
use Rattle.std.specs.List.{flat_map}
use Rattle.word_index.specs.Tokens.{tokens_of}
use Rattle.field_indexes.proofs.words.words_of_all.Given as goal

abbrev pub invariant-loop-text : goal.invariant-loop-text
invariant-loop-text l = l.words.items ≡ flat_map tokens_of (take l.text-index l.texts)
