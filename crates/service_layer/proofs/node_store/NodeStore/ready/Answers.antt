use Rattle.std.proofs.Common.{◌≡◌, true, rules}
use Rattle.std.specs.List.{list_any}
use Rattle.pieces.specs.Pieces.{is_exactly}
use Rattle.pieces.specs.Holdings.{after_ready}
use Rattle.service_layer.specs.Placing.{is_ready_over}
use Rattle.service_layer.proofs.Placed.{store_either, store_ready, store_readied}
use Rattle.service_layer.proofs.node_store.NodeStore.ready.Goals as goal

pub invariant_of-self-then-is_ready_over : goal.invariant_of-self-then-is_ready_over
invariant_of-self-then-is_ready_over c =
    let p = c.self.inside.parts in
    let h = c.self.inside.pieces in
    let exact : list_any (is_exactly c.args.bucket) h.pieces ≡ true = search rules in
    let mark : is_ready_over c.args.bucket h.pieces ≡ true = search rules in
    store_either p h c.ready-then-is_ready_over.new.self (after_ready c.args.bucket h) c.ready-then-is_ready_over.result c.ready-then-is_ready_over.ensures.ok c.ready-then-is_ready_over.ensures.err c.self.invariant
    (λ _. store_ready c.runs_are_known.ensures p c.args.bucket c.bits.ensures.valid _ h.pieces c.items.ensures.valid.laid exact mark c.self.invariant)

pub invariant_of-self-2 : goal.invariant_of-self-2
invariant_of-self-2 c =
    let p = c.self.inside.parts in
    let h = c.self.inside.pieces in
    let exact : list_any (is_exactly c.args.bucket) h.pieces ≡ true = search rules in
    store_readied p c.make_ready.new.self c.args.bucket h c.ready-2.new.self c.ready-2.result c.ready-2.ensures.ok c.ready-2.ensures.told exact c.in-Ok.ensures.ok c.self.invariant
