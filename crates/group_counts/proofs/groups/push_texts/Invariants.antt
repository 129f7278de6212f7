use Rattle.std.proofs.Common.{◌≡◌, ◌++◌, map}
use Rattle.std.specs.String.{string_bytes}
use Rattle.doc_types.specs.declared.values.FieldValue.TheVariants.{Text}
use Rattle.group_counts.specs.Tallies.{told_group, counted_of}
use Rattle.group_counts.proofs.groups.push_texts.Given as goal

abbrev pub invariant-loop-text : goal.invariant-loop-text
invariant-loop-text l = l.groups.items ++ map (λ e. told_group l.kinds (Text (string_bytes e.0)) e.1) (counted_of l.text-iterator) ≡ l.initial.groups.items ++ map (λ e. told_group l.kinds (Text (string_bytes e.0)) e.1) (counted_of l.tallies.entries)
