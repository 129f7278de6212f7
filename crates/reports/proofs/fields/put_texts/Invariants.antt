use Rattle.std.proofs.Common.{map, take}
use Rattle.json.specs.Token.{string}
use Rattle.reports.specs.Writing.{Puts}
use Rattle.reports.proofs.fields.put_texts.Given as goal

-- the tokens so far
abbrev pub invariant-loop-text : goal.invariant-loop-text
invariant-loop-text l = Puts l.initial.out l.out (map string (take l.text-index l.texts))
