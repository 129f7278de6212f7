use Rattle.std.proofs.Common.{sym, subst}
use Rattle.replica_store.specs.Replicas.{LieIn}
use Rattle.machine_tables.proofs.Inside.{lie_in}
use Rattle.machine_tables.proofs.words.entries_in.Goals as goal

pub returns : goal.returns
returns c = subst (LieIn c.args.bucket) (sym c.in_ok-within.ensures) (lie_in c.args.bucket _)
