use Rattle.std.proofs.Common.{◌≡◌, ◌++◌, ◌∷◌, List, [], length, refl, sym, ap, ◌∙◌, append-nil, arith}
use Rattle.std.specs.Vec.Iter.{into_iter_items, into_iter_len}
use Rattle.session_cluster.specs.Cells.{lanes_in}
use Rattle.session_cluster.proofs.session.unshelve_all.Goals as goal

nothing_left : {X : Type 0} (l : List X) → length l ≡ 0 → l ≡ []
nothing_left [] h = refl
nothing_left (x ∷ xs) h = absurd (omega (arith, h))

pub returns : goal.returns
returns g c =
    let left = into_iter_items c.loop-lane.lane-iterator in
    let size : into_iter_len c.loop-lane.lane-iterator ≡ length left = omega (arith, c.loop-lane.lane-iterator.rest.ok) in
    let empty : left ≡ [] = nothing_left left (sym size ∙ c.in-None.ensures.steps.0) in
    sym (append-nil (lanes_in c.loop-lane.room.items)) ∙ ap (λ l. lanes_in c.loop-lane.room.items ++ lanes_in l) (sym empty) ∙ c.loop-lane.invariant.2
