use Rattle.std.proofs.Common.{◌∙◌, sym, ap}
use Rattle.doc_updates.specs.Updates.{pairs, all_changed, and_then, sized}
use Rattle.doc_updates.proofs.Results.{if_ok, if_err}
use Rattle.doc_updates.proofs.update.changed_by.Goals as goal

pub returns-clause-ok : goal.returns-clause-ok
returns-clause-ok c =
    let ran = ap (λ d. all_changed (pairs c.args.changes.now) d.fields) (sym c.in_ok-left.ensures) ∙ c.in_ok-change_all.ensures.ok in
    if_ok c.sized.result c.sized.ensures.ok (λ left p.
    (ap (λ d. d.id) p.0 ∙ c.in_ok-change_all.ensures.id ∙ ap (λ d. d.id) c.in_ok-left.ensures, ap (and_then sized) ran ∙ p.1))

pub returns-clause-fault : goal.returns-clause-fault
returns-clause-fault c =
    let ran = ap (λ d. all_changed (pairs c.args.changes.now) d.fields) (sym c.in_ok-left.ensures) ∙ c.in_ok-change_all.ensures.ok in
    if_err c.sized.result c.sized.ensures.fault (λ fault p other. ap (and_then sized) ran ∙ p)
