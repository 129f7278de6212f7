use Rattle.std.proofs.Common.{◌≡◌, drop}
use Rattle.pass_machine.specs.Settling.{serial_among}
use Rattle.pass_machine.proofs.settling.serial_at.Given as goal

abbrev pub invariant-loop-exact : goal.invariant-loop-exact
invariant-loop-exact l = serial_among (l.note.exact).items l.node ≡ serial_among (drop l.exact-index (l.note.exact).items) l.node
