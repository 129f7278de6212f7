use Rattle.std.proofs.Common.{◌≡◌, ◌&&◌, Bool, true, false, not, cond, bytes_eq, refl, sym, ap, ◌∙◌, None}
use Rattle.std.specs.FinMap as fin
use Rattle.std.specs.FinMap.{get-remove}
use Rattle.std.specs.Cmp.Lexicographic.{nat_list_cmp_total}
use Rattle.std.proofs.lemmas.Map.Text.{is_eq-slice_cmp}
use Rattle.node_rows.proofs.fitting.clear_unfit.Goals as goal

and_not : (a b : Bool) → b ≡ false → a ≡ (a && not b)
and_not true b e = sym (ap not e)
and_not false b e = refl

pub returns-then-not-fits-clause-fields : goal.returns-then-not-fits-clause-fields
returns-then-not-fits-clause-fields c = λ f.
    ap (λ m. fin.get m f) c.clear.ensures.fields ∙ get-remove nat_list_cmp_total c.args.document.now.fields c.name.result.now f
    ∙ ap (λ t. cond t None (fin.get c.args.document.now.fields f))
    (is_eq-slice_cmp f c.name.result.now ∙ ap (bytes_eq f) c.name.ensures ∙ and_not (bytes_eq f c.args.field.now.name) _ (sym c.fits.ensures ∙ c.if-not-fits.true))
