use Rattle.std.proofs.Common.{◌&&◌, sym, ap₂, ◌∙◌, arith}
use Rattle.std.specs.FinMap as fin
use Rattle.std.proofs.lemmas.List.Folds.{list_all_more, list_all_at}
use Rattle.documents.specs.Fields.{pairs}
use Rattle.document_indexes.proofs.PairLaws.{no_pair, longer}
use Rattle.node_rows.specs.Kept.{pair_fits}
use Rattle.node_rows.proofs.FitLaws.{pair_at}
use Rattle.node_rows.proofs.fitting.all_fit.Goals as goal

pub returns-then-not-fits : goal.returns-then-not-fits
returns-then-not-fits c =
    let kinds = fin.get c.args.schema.now c.args.type_name.now in
    let es = pairs c.args.fields.now in
    let at = c.loop-at.at in
    let t = c.loop-at-test.true in
    let e = longer c.args.fields.now in
    sym (list_all_at (pair_fits kinds) es at no_pair (omega (arith, t, e)) (pair_at kinds c.args.fields.now at c.index-fields-at.result (omega (arith, t)) c.index-fields-at.is ∙ sym c.fits.ensures ∙ c.if-not-fits.true))

pub loop-at-preserved : goal.loop-at-preserved
loop-at-preserved c =
    let kinds = fin.get c.args.schema.now c.args.type_name.now in
    let es = pairs c.args.fields.now in
    let at = c.loop-at.at in
    let t = c.loop-at-test.true in
    let e = longer c.args.fields.now in
    list_all_more (pair_fits kinds) es at no_pair (omega (arith, t, e))
    ∙ ap₂ (λ a b. a && b) c.loop-at.invariant (pair_at kinds c.args.fields.now at c.index-fields-at.result (omega (arith, t)) c.index-fields-at.is ∙ sym c.fits.ensures ∙ c.if-not-fits.false)
