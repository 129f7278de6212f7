use Rattle.std.proofs.Common.{◌≡◌, ◌<◌, ℕ, length, get_or}
use Rattle.doc_types.specs.declared.outputs.OutputKind.TheVariants as output
use Rattle.group_counts.specs.Figures.{no_slot, HasColumn}
use Rattle.group_counts.proofs.slots.first_slots.Given as goal

abbrev pub invariant-loop-at : goal.invariant-loop-at
invariant-loop-at g l = (length l.slots.items ≡ l.at)
    × ((i : ℕ) → i < l.at → HasColumn l.type_name (get_or l.kinds i output.Count) (g.V.Lists.seen l.view) (get_or l.slots.items i no_slot))
