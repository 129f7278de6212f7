use Rattle.std.proofs.Common.{◌<◌, ◌++◌, map, sym, ap, subst, ◌∙◌, rules}
use Rattle.std.specs.List.{AllByRecursion}
use Rattle.match_views.specs.declared.hits.Hit.{Hit}
use Rattle.match_views.proofs.HitLaws.{hits_with, hits_past}
use Rattle.match_views.proofs.FewLaws.{few-hits}
use Rattle.match_views.proofs.hits.matches.Goals.{then-serves+in_ok-locals+in_ok-push_all, else-serves}
use Rattle.match_views.proofs.hits.matches.Goals as goal

pub loop-node-preserved : goal.loop-node-preserved
loop-node-preserved g c =
    let v = g.L.Lists.seen c.args.lists.now in
    elim c.if-serves.branch [
      | then-serves+in_ok-locals+in_ok-push_all w ↦ (
        hits_with c.args.query.now c.args.version c.loop-node.node v c.loop-node.items.items c.if-serves.items.items w.text.result.now w.in_ok-locals.locals.items c.loop-node.invariant.0
            (sym c.serves.ensures.value ∙ w.if-serves.true) w.text.ensures w.in_ok-locals.ensures
            (ap (λ v. v.items) w.items-is ∙ w.in_ok-push_all.ensures.items ∙ ap (λ xs. c.loop-node.items.items ++ map {B = Hit} (λ local. record { node = c.loop-node.node; local = local }) xs) w.deref.ensures.value),
        subst (λ v. AllByRecursion (λ hit. hit.local < 4294967296) v.items) (sym w.items-is) (w.in_ok-push_all.ensures.low c.loop-node.invariant.1),
      )
      | else-serves w ↦ (
        hits_past c.args.query.now c.args.version c.loop-node.node v c.loop-node.items.items c.if-serves.items.items c.loop-node.invariant.0 (sym c.serves.ensures.value ∙ w.if-serves.false) (ap (λ v. v.items) w.items-is),
        subst (λ v. AllByRecursion (λ hit. hit.local < 4294967296) v.items) (sym w.items-is) c.loop-node.invariant.1,
      )
    ]

pub returns-clause-few : goal.returns-clause-few
returns-clause-few g c = few-hits c.args.query.now c.args.version (g.L.Lists.seen c.args.lists.now) c.loop-node.items.items (search rules) c.loop-node.invariant.1
