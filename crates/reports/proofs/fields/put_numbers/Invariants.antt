use Rattle.std.proofs.Common.{map, take}
use Rattle.reports.specs.Writing.{Puts, number_token}
use Rattle.reports.proofs.fields.put_numbers.Given as goal

-- the tokens so far
abbrev pub invariant-loop-number : goal.invariant-loop-number
invariant-loop-number l = Puts l.initial.out l.out (map number_token (take l.number-index l.numbers))
