use Rattle.std.proofs.Common.{◌≡◌, ◌∙◌, ap, sym, length, arith}
use Rattle.std.specs.List.{splice}
use Rattle.std.proofs.lemmas.Iterator.{items_from_drains}
use Rattle.std.proofs.lemmas.Iterator.Adapters.{YieldsList-from_vec}
use Rattle.std.proofs.lemmas.List.{map-id}
use Rattle.pieces.proofs.changes.replace_between.Goals as goal

pub returns-clause-ok : goal.returns-clause-ok
returns-clause-ok c =
    let put = c.in_ok-splice.ensures.items in
    let ran = put.3 in
    let len : put.0.rest.len ≡ length c.args.others.items = omega (arith, put.2.1, c.args.others.ok.0) in
    let same : put.1 ≡ c.args.others.items = sym (map-id put.1) ∙ items_from_drains put.1 (ran.1.0, ran.1.1, λ _. (ran.0, ran.1.2)) (YieldsList-from_vec c.args.others.items put.2.0 len) in
    put.4 ∙ ap (splice c.args.pieces.now.items c.args.from c.args.to) same
