use Rattle.std.proofs.Common.{◌≡◌, true, rules}
use Rattle.pieces.specs.Pieces.{holds}
use Rattle.pieces.specs.Places.{key_bucket}
use Rattle.service_layer.specs.Placing.{is_ready_over}
use Rattle.service_layer.proofs.Placed.{store_taken}
use Rattle.service_layer.proofs.node_store.NodeStore.store.Goals as goal

pub invariant_of-self-2 : goal.invariant_of-self-2
invariant_of-self-2 c =
    let h = c.self.inside.pieces in
    let there : holds c.args.key h.pieces ≡ true = search rules in
    let mark : c.is_ready_over-ready.result ≡ is_ready_over (key_bucket c.args.key) h.pieces = search rules in
    store_taken c.runs_are_known.ensures c.self.inside.parts c.take.new.self c.args.entry.now c.args.key c.is_ready_over-ready.result h c.renew.new.self c.items.ensures.valid.laid
    c.requires.key there mark c.renew.ensures.renewed c.in-Ok.ensures.ok c.in-Ok.ensures.places c.self.invariant
