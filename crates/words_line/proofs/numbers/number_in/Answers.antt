use Rattle.std.proofs.Common.{inl, inr, arith}
use Rattle.words_line.proofs.Numerals.{outside}
use Rattle.words_line.proofs.numbers.number_in.Goals as goal

pub returns-then-number-least : goal.returns-then-number-least
returns-then-number-least c = outside c.args.least c.args.most _ c.in-Some.number c.in-Some.ensures.1 (omega arith) c.in-Some.ensures.0 (inl c.if-number-least.true)

pub returns-then-most-number : goal.returns-then-most-number
returns-then-most-number c = outside c.args.least c.args.most _ c.in-Some.number c.in-Some.ensures.1 (omega arith) c.in-Some.ensures.0 (inr c.if-most-number.true)
