use Rattle.std.proofs.Common.{length}
use denote.Text.{Utf8}
use denote.Shadow.{shadow}
use Rattle.conditions.proofs.Steps.{ReadSoFar}
use Rattle.conditions.proofs.token_reading.read.Given as goal

-- the tokens so far were read, and begin a text of the language
abbrev pub invariant-reading : goal.invariant-reading
invariant-reading g l = shadow (Utf8 l.rest) × ReadSoFar l.language (g.R.TokenReader.language l.schema) (g.R.TokenReader.reached l.schema) l.text l.rest l.reader

abbrev pub decreases-reading : goal.decreases-reading
decreases-reading g l = length l.rest
