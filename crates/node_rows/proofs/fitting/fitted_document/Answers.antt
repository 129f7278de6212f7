use Rattle.std.proofs.Common.{◌&&◌, ◌||◌, not, take, cond, bytes_eq, sym, ap, ap₂, ◌∙◌, arith, Some, None}
use Rattle.std.specs.FinMap as fin
use Rattle.std.proofs.lemmas.List.{take_all}
use Rattle.std.proofs.lemmas.List.Folds.{list_any_more}
use Rattle.document_ids.specs.Parts.{type_of}
use Rattle.documents.specs.Fields.{pairs}
use Rattle.document_indexes.proofs.PairLaws.{no_pair, longer, name_at, value_at}
use Rattle.document_rows.specs.Rows.{fits, kind_in}
use Rattle.node_rows.specs.Kept.{pair_fits, is_unfit}
use Rattle.node_rows.proofs.FitLaws.{unfit_more, fitted_by}
use Rattle.node_rows.proofs.fitting.fitted_document.Goals as goal

pub loop-at-preserved : goal.loop-at-preserved
loop-at-preserved c =
    let kinds = fin.get c.args.schema.now c.type_name-name.result.now in
    let fields = c.fields-fields.result.now in
    let es = pairs fields in
    let at = c.loop-at.at in
    let x = c.index-fields-at.result in
    let t = c.loop-at-test.true in
    let e = longer fields in (
      c.clear_unfit.ensures.id ∙ c.loop-at.invariant.0,
      λ f.
          unfit_more (is_unfit kinds f (take at es)) (bytes_eq f x.name && not (pair_fits kinds (x.name, x.value))) (fin.get c.clear_unfit.new.document.fields f) (fin.get c.loop-at.copy.fields f) (fin.get c.args.document.now.fields f)
          (c.clear_unfit.ensures.fields f) (c.loop-at.invariant.1 f)
          ∙ ap (λ b. cond b None (fin.get c.args.document.now.fields f))
          (sym (list_any_more (λ p. bytes_eq f p.0 && not (pair_fits kinds p)) es at no_pair (omega (arith, t, e))
          ∙ ap (λ b. is_unfit kinds f (take at es) || b)
          (ap₂ (λ a b. bytes_eq f a && not (fits (kind_in kinds a) (Some b))) (sym (name_at fields at x (omega (arith, t)) c.index-fields-at.is)) (sym (value_at fields at x (omega (arith, t)) c.index-fields-at.is))))),
    )

pub returns : goal.returns
returns c =
    let fields = c.fields-fields.result.now in
    let es = pairs fields in
    let t = c.loop-at-test.false in
    let e = longer fields in
    fitted_by c.args.schema.now c.args.document.now c.loop-at.copy c.loop-at.invariant.0 (λ f.
    c.loop-at.invariant.1 f
    ∙ ap₂ (λ name xs. cond (is_unfit (fin.get c.args.schema.now name) f xs) None (fin.get c.args.document.now.fields f)) (c.type_name-name.ensures ∙ ap type_of c.id.ensures) (take_all c.loop-at.at es (omega (arith, t, e)) ∙ c.fields-fields.ensures))
