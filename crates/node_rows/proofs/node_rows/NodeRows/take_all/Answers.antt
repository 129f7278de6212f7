use Rattle.std.proofs.Common.{◌≡◌, ◌<◌, true, length, take, bytes_eq, refl, sym, ap, ap₂, subst, ◌∙◌, arith}
use Rattle.std.proofs.lemmas.List.Folds.{list_any_at}
use Rattle.documents.specs.declared.entry.Entry.{Entry}
use Rattle.document_rows.specs.Rows.{taken_into, has_entry}
use Rattle.document_rows.specs.Reading.{row_at}
use Rattle.document_rows.proofs.RowLaws.{own_id}
use Rattle.node_rows.specs.TypedRows.{TypedRows, with_rows, all_taken, all_left}
use Rattle.node_rows.proofs.UndoLaws.{IsOver, over_self, over_taken, left_back, left_rest, fold_more}
use Rattle.node_rows.proofs.node_rows.NodeRows.take_all.Goals as goal

pub loop-at-init : goal.loop-at-init
loop-at-init c = (refl, over_self c.args.entries.now c.args.self.now.rows c.requires.new)

pub cut-requires : goal.cut-requires
cut-requires c = λ k l.
    let es = c.args.entries.now in
    let v = c.len-count.ensures.value in
    ap (λ (t : TypedRows). row_at t.rows k) (c.leave_all.ensures ∙ ap (λ (t : TypedRows). with_rows (all_left es t.rows) t) c.in-Err.ensures.err)
    ∙ left_rest es c.args.self.now.rows c.loop-at.self.rows c.loop-at.invariant.1 k (omega (arith, v, l))

pub returns-in-Err-clause-err : goal.returns-in-Err-clause-err
returns-in-Err-clause-err c =
    let es = c.args.entries.now in
    let n = c.len-count.result in
    c.cut.ensures ∙ ap (λ (t : TypedRows). with_rows (take n t.rows) t) (c.leave_all.ensures ∙ ap (λ (t : TypedRows). with_rows (all_left es t.rows) t) c.in-Err.ensures.err)
    ∙ ap₂ (λ types rs. record { types = types; rows = rs }) (ap (λ (t : TypedRows). t.types) c.loop-at.invariant.0)
    (ap (λ k. take k (all_left es c.loop-at.self.rows)) c.len-count.ensures.value ∙ left_back es c.args.self.now.rows c.loop-at.self.rows c.loop-at.invariant.1)

pub loop-at-preserved : goal.loop-at-preserved
loop-at-preserved c =
    let es = c.args.entries.now in
    let at = c.loop-at.at in
    let now = c.args.self.now in
    let x = c.index-entries-at-in-loop-at.result in
    let is = c.index-entries-at-in-loop-at.is in
    let t = c.loop-at-test.true in
    let less : at < length es = omega (arith, t) in
    let own : has_entry x.id es ≡ true = list_any_at (λ (e : Entry). bytes_eq e.id x.id) es at x less (ap (λ (e : Entry). bytes_eq e.id x.id) (sym is) ∙ own_id x.id) in (
      c.in_default.ensures.ok ∙ ap (λ (t : TypedRows). with_rows (taken_into t.types t.rows x) t) c.loop-at.invariant.0
          ∙ ap (λ rs. with_rows rs now) (ap (λ e. taken_into now.types (all_taken now.types (take at es) now.rows) e) is ∙ sym (fold_more (taken_into now.types) now.rows es at x less)),
      subst (λ (t : TypedRows). IsOver es now.rows t.rows) (sym c.in_default.ensures.ok) (over_taken c.loop-at.self.types es x now.rows c.loop-at.self.rows own c.loop-at.invariant.1),
    )
