use Rattle.std.proofs.Common.{◌≡◌, ◌∙◌, true, cond, ap, rules}
use Rattle.pieces.specs.Told.{Accepted, NoBucket}
use Rattle.service_layer.specs.Placing.{is_ready_inside}
use Rattle.service_layer.proofs.Readiness.{inside_some}
use Rattle.service_layer.proofs.Placed.{store_joined}
use Rattle.service_layer.proofs.node_store.NodeStore.join_ready.Goals as goal

pub returns-in_default-clause-told : goal.returns-in_default-clause-told
returns-in_default-clause-told c = ap (λ t. cond t Accepted NoBucket) (inside_some c.args.bucket c.args.self.now.pieces c.requires.inside)

pub invariant_of-self-2 : goal.invariant_of-self-2
invariant_of-self-2 c =
    let h = c.self.inside.pieces in
    let some : is_ready_inside c.args.bucket h.pieces ≡ true = rw (← c.self.view_is) at c.requires.inside in
    store_joined c.runs_are_known.ensures c.self.inside.parts c.in-Ok.parts c.args.bucket c.bits.ensures.valid h c.join.new.self c.items.ensures.valid.laid
    c.in_ok-join.ensures.ok c.in_ok-join.ensures.keys some c.in-Ok.ensures c.self.invariant
