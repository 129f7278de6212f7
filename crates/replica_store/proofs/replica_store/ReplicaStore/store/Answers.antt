use Rattle.std.proofs.Common.{rules, ◌≡◌, ◌∙◌, sym, ap, subst, true}
use Rattle.pieces.specs.Pieces.{holds}
use Rattle.global_ids.specs.Keys.{key_of}
use Rattle.replica_store.specs.Replicas.{AreHeld}
use Rattle.replica_store.proofs.HeldEntries.{AreHeld-store, AreHeld-more}
use Rattle.replica_store.proofs.replica_store.ReplicaStore.store.Goals as goal

pub invariant_of-self-2 : goal.invariant_of-self-2
invariant_of-self-2 c =
    let there : holds c.args.key c.self.inside.pieces.pieces ≡ true = search rules in
    let here : holds (key_of c.args.entry.id) c.self.inside.pieces.pieces ≡ true = ap (λ key. holds key c.self.inside.pieces.pieces) (sym c.requires.key) ∙ there in
    subst (λ m. AreHeld m c.renew.new.self.pieces) (sym c.in-Ok.ensures.ok)
    (AreHeld-more c.keys_locate.ensures.small _ c.self.inside.pieces.pieces _ (λ key small h. c.renew.ensures.keys key ∙ h) (AreHeld-store c.self.inside.entries c.args.entry c.self.inside.pieces.pieces here c.self.invariant))
