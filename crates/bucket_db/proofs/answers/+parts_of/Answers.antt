use Rattle.std.proofs.Common.{◌∙◌, ◌∷◌, ◌++◌, [], ap, sym, subst, refl, List}
use Rattle.bucket_ids.specs.Buckets.{Low}
use Rattle.bucket_db.specs.Dividing.{IsDivided}
use Rattle.bucket_db.proofs.Coarsest.{divided_leaf, divided_found}
use Rattle.bucket_db.proofs.answers.+parts_of.Goals as goal

pub returns-then-not-divides : goal.returns-then-not-divides
returns-then-not-divides t c =
    let all_is = c.in_ok-push.ensures.items ∙ ap (λ (xs : List Low). xs ++ c.args.bucket ∷ []) c.new-parts.ensures.items in
    subst (λ (xs : List Low). IsDivided c.args.bucket c.args.answers.now xs) (sym all_is)
    (divided_leaf c.args.bucket c.args.answers.now c.if-not-divides.ensures.valid (sym c.if-not-divides.ensures.test))

pub returns : goal.returns
returns t c = divided_found c.args.bucket c.args.answers.now c.if-not-divides.ensures.valid (c.if-not-divides.ensures.deep refl) (sym c.if-not-divides.ensures.test)
    _ _ _ _ _ _ _ c.children-first.ensures.first c.children-first.ensures.second
    (c.deref.ensures.value ∙ c.in_ok-firsts.ensures) (c.deref-2.ensures.value ∙ c.in_ok-seconds.ensures)
    c.in_ok-parts.ensures c.in_ok-parts_of.ensures
    (c.in_ok-extend_from_slice.ensures.items ∙ ap (λ (ys : List Low). c.in_ok-parts.parts.items ++ ys) c.deref-3.ensures.value)
