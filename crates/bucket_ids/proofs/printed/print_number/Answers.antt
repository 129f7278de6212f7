use Rattle.std.proofs.Common.{arith}
use Rattle.std.proofs.lemmas.Grind.{common_steps}
use Rattle.bucket_ids.proofs.HexDigits.{hex_digits_next, hex_digits-none}
use Rattle.bucket_ids.proofs.printed.print_number.Goals as goal

pub loop-done-init : goal.loop-done-init
loop-done-init c = grind (arith, common_steps, hex_digits-none)

pub loop-done-preserved : goal.loop-done-preserved
loop-done-preserved c = rw (hex_digits_next c.args.number c.loop-done.done (omega arith)) (grind (arith, common_steps))
