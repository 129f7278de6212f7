use Rattle.std.proofs.Common.{rules, ◌++◌, take, ap, sym, ◌∙◌}
use Rattle.distributor_part.specs.Steps.{buckets_shown, all_shown}
use Rattle.distributor_part.proofs.PartLaws.{shown_more}
use Rattle.distributor_part.proofs.opening.all_buckets.Goals as goal

pub loop-pieces-preserved : goal.loop-pieces-preserved
loop-pieces-preserved c =
    let before = all_shown (take c.loop-pieces.pieces-index c.args.shown.now) in
    c.in_ok-add_buckets.ensures
    ∙ ap (λ bs. bs ++ buckets_shown c.items.result.now) c.loop-pieces.invariant
    ∙ ap (λ ps. before ++ buckets_shown ps) c.items.ensures
    ∙ sym (shown_more c.args.shown.now c.loop-pieces.pieces-index _ (search rules) c.pieces-item.is)
