use Rattle.std.proofs.Common.{arith}
use Rattle.bucket_db.proofs.Inside.{low_below}
use Rattle.bucket_db.proofs.row.number_of.Goals as goal

pub overflow_add-result : goal.overflow_add-result
overflow_add-result c = omega (arith, low_below c.args.bucket c.low.ensures.valid)
