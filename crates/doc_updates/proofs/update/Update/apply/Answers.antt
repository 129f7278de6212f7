use Rattle.std.proofs.Common.{◌≡◌, ◌≢◌, ◌∙◌, sym, ap, subst, Ok, Err, IfOk, IfErr}
use Rattle.std.specs.FinMap as fin
use Rattle.std.specs.FinMap.{entries-from_sorted}
use Rattle.doc_types.specs.SchemaCodes.{name_cmp}
use Rattle.doc_updates.specs.Updates.{pairs, all_changed, and_then, sized}
use Rattle.doc_updates.specs.declared.fault.UpdateFault.TheVariants as update_reason
use Rattle.doc_updates.proofs.update.Update.apply.Goals as goal

pub returns-clause-ok : goal.returns-clause-ok
returns-clause-ok c =
    let list = c.deref-2.ensures.value ∙ ap (λ v. v.items) c.deref.ensures in
    let es = ap pairs list ∙ sym (entries-from_sorted name_cmp (pairs c.self.inside.list.value.items) c.self.invariant) ∙ ap fin.entries c.self.view_is in
    subst (λ es. IfOk c.changed_by.result (λ left. (left.id ≡ c.args.document.now.id) × (and_then sized (all_changed es c.args.document.now.fields) ≡ Ok left.fields))) es c.changed_by.ensures.ok

pub returns-clause-fault : goal.returns-clause-fault
returns-clause-fault c =
    let list = c.deref-2.ensures.value ∙ ap (λ v. v.items) c.deref.ensures in
    let es = ap pairs list ∙ sym (entries-from_sorted name_cmp (pairs c.self.inside.list.value.items) c.self.invariant) ∙ ap fin.entries c.self.view_is in
    subst (λ es. IfErr c.changed_by.result (λ fault. (fault ≢ update_reason.NoMemory) → and_then sized (all_changed es c.args.document.now.fields) ≡ Err fault)) es c.changed_by.ensures.fault
