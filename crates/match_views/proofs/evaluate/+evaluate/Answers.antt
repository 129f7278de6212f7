use Rattle.std.proofs.Common.{◌≡◌, ◌&&◌, ◌||◌, not, sym, ap, ap₂, ◌∙◌, rules}
use mir.Val.{to_z, of_z, SFits}
use mir.Syntax.{w64}
use Rattle.std.proofs.lemmas.Int.{to_z-of_z}
use Rattle.std.specs.FinMap as fin
use Rattle.view_changes.specs.Serving.{rows_of}
use Rattle.query_text.specs.Truth.{expr_holds, contains, value_relates}
use Rattle.match_views.specs.Merging.{joined, cut, lacking}
use Rattle.proof_basics.proofs.Results.{if_ok}
use Rattle.match_views.proofs.TruthLaws.{found_none, found_not, found_both, found_either, found_as}
use Rattle.match_views.proofs.evaluate.+evaluate.Goals as goal

pub returns-in-False : goal.returns-in-False
returns-in-False g t c = found_none c.args.type_name.now (λ d. expr_holds d c.args.expr.now) (rows_of c.args.node (g.L.Lists.seen c.args.lists.now)) c.new.result.items (λ d. ap (expr_holds d) c.in-False.is) c.new.ensures.items

pub returns-in_ok-found-in-Not : goal.returns-in_ok-found-in-Not
returns-in_ok-found-in-Not g t c = if_ok c.lack.result (λ ids e.
    found_not c.args.type_name.now c.args.expr.now c.deref.result.now (rows_of c.args.node (g.L.Lists.seen c.args.lists.now)) c.of_type-in-Not.result.now c.in_ok-found-in-Not.found.items ids.items
    (λ d. ap (expr_holds d) c.in-Not.is ∙ ap (λ x. not (expr_holds d x)) (sym c.deref.ensures)) c.of_type-in-Not.ensures.ids c.in_ok-found-in-Not.ensures (e ∙ ap (lacking c.of_type-in-Not.result.now) c.deref-in-Not.ensures.value)) c.lack.ensures

pub returns-in_ok-two-in-And : goal.returns-in_ok-two-in-And
returns-in_ok-two-in-And g t c = if_ok c.cut.result (λ ids e.
    found_both c.args.type_name.now c.args.expr.now c.deref-in-And-3.result.now c.deref-in-And-4.result.now (rows_of c.args.node (g.L.Lists.seen c.args.lists.now)) c.in_ok-one-in-And.one.items c.in_ok-two-in-And.two.items ids.items
    (λ d. ap (expr_holds d) c.in-And.is ∙ ap₂ (λ x y. expr_holds d x && expr_holds d y) (sym c.deref-in-And-3.ensures) (sym c.deref-in-And-4.ensures)) c.in_ok-one-in-And.ensures c.in_ok-two-in-And.ensures
    (e ∙ ap₂ cut c.deref-in-And-5.ensures.value c.deref-in-And-6.ensures.value)) c.cut.ensures

pub returns-in_ok-two-in-Or : goal.returns-in_ok-two-in-Or
returns-in_ok-two-in-Or g t c = if_ok c.join.result (λ ids e.
    found_either c.args.type_name.now c.args.expr.now c.deref-in-Or.result.now c.deref-in-Or-2.result.now (rows_of c.args.node (g.L.Lists.seen c.args.lists.now)) c.in_ok-one-in-Or.one.items c.in_ok-two-in-Or.two.items ids.items
    (λ d. ap (expr_holds d) c.in-Or.is ∙ ap₂ (λ x y. expr_holds d x || expr_holds d y) (sym c.deref-in-Or.ensures) (sym c.deref-in-Or-2.ensures)) c.in_ok-one-in-Or.ensures c.in_ok-two-in-Or.ensures
    (e ∙ ap₂ joined c.deref-in-Or-3.ensures.value c.deref-in-Or-4.ensures.value)) c.join.ensures

pub returns-in-Contains : goal.returns-in-Contains
returns-in-Contains g t c = if_ok c.containing.result (λ ids e.
    found_as c.args.type_name.now c.args.expr.now (λ d. contains c.items.result.now (fin.get d.fields c.text.result.now)) (rows_of c.args.node (g.L.Lists.seen c.args.lists.now)) ids.items
    (λ d. ap (expr_holds d) c.in-Contains.is ∙ ap₂ (λ ts f. contains ts (fin.get d.fields f)) (sym c.items.ensures) (sym c.text.ensures)) e) c.containing.ensures

pub returns-in-Compare : goal.returns-in-Compare
returns-in-Compare g t c =
    let fits : SFits w64 c.in-Compare.number = search rules in
    let z : to_z w64 (of_z w64 c.in-Compare.number) ≡ c.in-Compare.number = to_z-of_z w64 c.in-Compare.number fits in
    if_ok c.comparing.result (λ ids e.
    found_as c.args.type_name.now c.args.expr.now (λ d. value_relates c.in-Compare.rel (to_z w64 (of_z w64 c.in-Compare.number)) (fin.get d.fields c.text-in-Compare.result.now)) (rows_of c.args.node (g.L.Lists.seen c.args.lists.now)) ids.items
    (λ d. ap (expr_holds d) c.in-Compare.is ∙ ap₂ (λ n f. value_relates c.in-Compare.rel n (fin.get d.fields f)) (sym z) (sym c.text-in-Compare.ensures)) e) c.comparing.ensures
