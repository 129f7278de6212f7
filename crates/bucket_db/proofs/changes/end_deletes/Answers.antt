use Rattle.std.proofs.Common.{◌≡◌, ◌+◌, ◌<◌, length, sym, ap, ◌∙◌, subst, arith, get_or}
use Rattle.std.specs.Prelude.{slice_set}
use Rattle.std.proofs.Math.Numerals.{add-one}
use Rattle.bucket_db.specs.Changes.{without_delete}
use Rattle.bucket_db.specs.declared.row.Row.{Row}
use Rattle.bucket_db.proofs.Deletes.{changed_before, length_changed, none_changed, all_changed, one_changed}
use Rattle.bucket_db.proofs.changes.end_deletes.Goals as goal

pub loop-row-init : goal.loop-row-init
loop-row-init c = sym (none_changed _ _)

pub loop-row-preserved : goal.loop-row-preserved
loop-row-preserved c =
    let at = c.loop-row.row-index in
    let all = c.args.rows.now in
    let item = c.row-item.result in
    let change : Row → Row = without_delete c.args.bucket c.args.node in
    let size = sym (length_changed change at all) ∙ sym (ap length c.loop-row.invariant) in
    let within : at < length all = omega arith in
    ap (λ d. slice_set c.loop-row.rows at (record (get_or c.loop-row.rows at item) { deleting = d })) c.after_delete-row.ensures
    ∙ ap (λ (r : Row). slice_set c.loop-row.rows at (change r)) (sym c.row-item.is)
    ∙ subst (λ rows. slice_set rows at (change item) ≡ changed_before change (at + 1) all) (sym c.loop-row.invariant)
    (one_changed change at all item within (c.row-item.is ∙ ap (λ rows. get_or rows at item) c.loop-row.invariant)
    ∙ ap (λ k. changed_before change k all) (sym (add-one at)))

pub returns : goal.returns
returns c =
    let all = c.args.rows.now in
    let change : Row → Row = without_delete c.args.bucket c.args.node in
    let size = sym (length_changed change c.loop-row.row-index all) ∙ sym (ap length c.loop-row.invariant) in
    let end : c.loop-row.row-index ≡ length all = omega arith in
    c.loop-row.invariant ∙ ap (λ k. changed_before change k all) end ∙ all_changed change all
