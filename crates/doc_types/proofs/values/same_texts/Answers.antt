use Rattle.std.proofs.Common.{◌≡◌, [], length, refl, arith}
use Rattle.std.proofs.lemmas.List.{ext_get_or}
use Rattle.doc_types.proofs.values.same_texts.Goals as goal

pub returns : goal.returns
returns c =
    let same : length c.args.one.now ≡ length c.args.two.now = omega arith in
    ((λ _. ext_get_or [] c.args.one.now c.args.two.now same (λ i lt. c.loop-at.invariant i [] (omega (arith, lt)))), (λ _. refl))
