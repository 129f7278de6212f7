use Rattle.std.proofs.Common.{arith}
use Rattle.bucket_ids.specs.Printed.{printed}
use Rattle.bucket_ids.proofs.HexDigits.{number_below}
use Rattle.bucket_ids.proofs.bucket.Bucket.print.Goals as goal

pub overflow_add-from : goal.overflow_add-from
overflow_add-from c = omega (arith, number_below _ c.self.invariant, c.from.ensures)

pub returns : goal.returns
unfolding printed
returns c = rw (← c.self.view_is, ← c.from.ensures) c.print_number.ensures
