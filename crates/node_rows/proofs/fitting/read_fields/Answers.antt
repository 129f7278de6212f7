use Rattle.std.proofs.Common.{take, cond, bytes_eq, ap, ◌∙◌, arith, Some, None}
use Rattle.documents.specs.Fields.{pairs}
use Rattle.document_indexes.specs.Entering.{has_name, value_of}
use Rattle.document_indexes.proofs.PairLaws.{name_at, value_at, longer, value_grows}
use Rattle.document_rows.specs.Reading.{value_has_number}
use Rattle.node_rows.proofs.FitLaws.{wide_more, wide_own}
use Rattle.node_rows.proofs.fitting.read_fields.Goals as goal

pub loop-at-preserved : goal.loop-at-preserved
loop-at-preserved c = λ f q h.
    let es = pairs c.args.fields.now in
    let at = c.loop-at.at in
    let x = c.index-fields-at.result in
    let v = c.value.result.now in
    let t = c.loop-at-test.true in
    let e = longer c.args.fields.now in
    wide_more q (has_name f (take at es)) (value_of f (take at es)) (cond (bytes_eq x.name f) (Some v) None) (c.loop-at.invariant f q) (wide_own (bytes_eq x.name f) q v (c.read_value.ensures q))
    (ap (value_has_number q)
    (value_grows f es at x.name v (name_at c.args.fields.now at x (omega (arith, t)) c.index-fields-at.is) (c.value.ensures ∙ value_at c.args.fields.now at x (omega (arith, t)) c.index-fields-at.is) (omega (arith, t, e)))
    ∙ h)
