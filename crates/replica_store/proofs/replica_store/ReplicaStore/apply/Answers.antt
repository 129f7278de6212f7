use Rattle.std.proofs.Common.{sym, subst}
use Rattle.replica_store.specs.Replicas.{AreHeld}
use Rattle.replica_store.proofs.HeldEntries.{AreHeld-join}
use Rattle.replica_store.proofs.replica_store.ReplicaStore.apply.Goals as goal

pub invariant_of-self-2 : goal.invariant_of-self-2
invariant_of-self-2 c =
    subst (λ m. AreHeld m c.in-Ok.pieces.pieces) (sym c.in-Ok-join.ensures.ok)
    (AreHeld-join c.keys_locate.ensures.small c.joins_are_by_document.ensures.entry c.args.bucket c.self.inside.entries c.args.entries.now c.self.inside.pieces.pieces _ c.in-Ok.ensures.keys c.requires.inside c.self.invariant)
