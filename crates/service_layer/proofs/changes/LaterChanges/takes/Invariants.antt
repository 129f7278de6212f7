use Rattle.std.proofs.Common.{◌≡◌}
use Rattle.view_changes.specs.Deeds.{takes}
use Rattle.service_layer.proofs.changes.LaterChanges.takes.Given as goal

abbrev pub invariant-loop-entry : goal.invariant-loop-entry
invariant-loop-entry l = l.changes.items ≡ takes l.node l.yielded
