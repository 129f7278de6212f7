use Rattle.std.proofs.Common.{◌≡◌, map, sum, take}
use Rattle.documents.specs.Sizes.{text_size, capped}
use Rattle.documents.proofs.sizes.texts_size.Given as goal

-- the size of the texts so far
abbrev pub invariant-loop-text : goal.invariant-loop-text
invariant-loop-text l = l.size ≡ capped (sum (map text_size (take l.text-index l.texts)))
