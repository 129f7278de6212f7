use Rattle.std.proofs.Common.{arith}
use Rattle.bucket_ids.proofs.Turned.{run_end, run_within}
use Rattle.bucket_ids.proofs.bucket.Bucket.run.Goals as goal

pub overflow_add-result : goal.overflow_add-result
overflow_add-result c = rw c.path_of-first.ensures (omega (arith, run_end _ c.self.invariant, run_within _ c.self.invariant))

pub returns-clause-last : goal.returns-clause-last
returns-clause-last c = rw (c.path_of-first.ensures, ← c.self.view_is) (run_end _ c.self.invariant)
