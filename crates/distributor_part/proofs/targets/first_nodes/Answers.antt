use Rattle.std.proofs.Common.{◌<◌, length, sym, subst, arith}
use Rattle.distributor_part.proofs.PartLaws.{one_more}
use Rattle.ideal_nodes.proofs.Places.{has_at}
use Rattle.distributor_part.proofs.targets.first_nodes.Goals as goal

within : (c : goal.After-at) → c.loop-place.place < length c.args.list.now
within c = let end = c.min-place-end.ensures in let size = c.len.ensures in omega arith

pub loop-place-init : goal.loop-place-init
loop-place-init c n = (λ h. let none = c.none-nodes.ensures n in cc, λ h. absurd h)

pub with-nodes-requires : goal.with-nodes-requires
with-nodes-requires c =
    subst (λ n. n < 32) (sym c.at.ensures) (c.requires _ (has_at c.args.list.now c.loop-place.place 0 (within c)))

pub loop-place-preserved : goal.loop-place-preserved
loop-place-preserved c n = one_more c.args.list.now c.loop-place.place n c.at.result _ _
    (let end = c.min-place-end.ensures in let size = c.len.ensures in omega arith) c.at.ensures
    (c.with-nodes.ensures n) (c.loop-place.invariant n)
