use Rattle.std.proofs.Common.{◌≡◌, length}
use Rattle.conditions.specs.Machine.{settle}
use Rattle.conditions.specs.Views.{formula_of, stack_of}
use Rattle.conditions.proofs.reading.settle.Given as goal

-- what is left to be settled is settled alike
abbrev pub invariant-waiting : goal.invariant-waiting
invariant-waiting g l = settle (formula_of l.tree) (stack_of l.frames.items) ≡ settle (formula_of l.fn.tree) (stack_of l.fn.frames.items)

abbrev pub decreases-waiting : goal.decreases-waiting
decreases-waiting g l = length l.frames.items
