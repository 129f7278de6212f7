use Rattle.std.proofs.Common.{◌∙◌, rules, sym, subst}
use Rattle.std.proofs.lemmas.List.Sorted.{ranks_by, answers_always}
use Rattle.std.proofs.lemmas.Fn.{dedup_same}
use Rattle.documents.specs.declared.entry.Entry.{Entry}
use Rattle.view_changes.specs.EntryOrder.{AreApart}
use Rattle.view_changes.proofs.OrderLaws.{ids_total, values-in-order, apart-in-order}
use Rattle.view_changes.proofs.fresh.in_order.Goals as goal

pub returns-clause-list : goal.returns-clause-list
returns-clause-list c =
    let sorted = c.in_ok-sort_by.ensures in
    let ranks = ranks_by ids_total (λ (e : Entry). e.id) in
    dedup_same _ _ _ (λ x y b f' x' y' k. search rules) _ _ c.dedup_by.ensures.filtered
    ∙ values-in-order _ _ (sorted.stable _ ranks (answers_always _ _ _ (λ f a r f' k. search rules))) (sorted.sorted _ ranks (answers_always _ _ _ (λ f a r f' k. search rules)))

pub returns-clause-apart : goal.returns-clause-apart
returns-clause-apart c =
    let sorted = c.in_ok-sort_by.ensures in
    let ranks = ranks_by ids_total (λ (e : Entry). e.id) in
    subst AreApart (sym (dedup_same _ _ _ (λ x y b f' x' y' k. search rules) _ _ c.dedup_by.ensures.filtered))
    (apart-in-order _ (sorted.sorted _ ranks (answers_always _ _ _ (λ f a r f' k. search rules))))
