use Rattle.std.proofs.Common.{◌≡◌, ◌++◌, map}
use Rattle.doc_types.specs.declared.values.FieldValue.TheVariants.{Int}
use Rattle.group_counts.specs.Tallies.{told_group, counted_of}
use Rattle.group_counts.proofs.groups.push_numbers.Given as goal

abbrev pub invariant-loop-number : goal.invariant-loop-number
invariant-loop-number l = l.groups.items ++ map (λ e. told_group l.kinds (Int e.0) e.1) (counted_of l.number-iterator) ≡ l.initial.groups.items ++ map (λ e. told_group l.kinds (Int e.0) e.1) (counted_of l.tallies.entries)
