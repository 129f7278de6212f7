use Rattle.std.proofs.Common.{sym, subst}
use Rattle.replica_store.specs.Replicas.{AreHeld}
use Rattle.replica_store.proofs.HeldEntries.{AreHeld-delete}
use Rattle.replica_store.proofs.replica_store.ReplicaStore.delete.Goals as goal

pub invariant_of-self-2 : goal.invariant_of-self-2
invariant_of-self-2 c =
    subst (λ m. AreHeld m c.delete.new.self.pieces) (sym c.remove_within.ensures)
    (AreHeld-delete c.keys_locate.ensures.small c.args.bucket c.self.inside.entries c.self.inside.pieces.pieces _ c.in_ok-delete.ensures.keys c.self.invariant)
