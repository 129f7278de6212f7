use Rattle.std.proofs.Common.{◌≡◌, drop}
use Rattle.std.specs.List.{list_all}
use Rattle.message_texts.specs.Entries.{is_small}
use Rattle.message_texts.proofs.fitting.are_small.Given as goal

-- the numbers so far are small
abbrev pub invariant-loop-number : goal.invariant-loop-number
invariant-loop-number l = list_all is_small (drop l.number-index l.numbers) ≡ list_all is_small l.numbers
