use Rattle.std.proofs.Common.{rules}
use Rattle.reports.proofs.WideNumbers.{number_text}
use Rattle.reports.proofs.groups.put_number.Goals as goal

pub number-requires : goal.number-requires
number-requires c = search (rules, number_text)
