use Rattle.std.proofs.Common.{◌≡◌, ◌≢◌, ◌<◌, ◌≤◌, ◌∙◌, sym, ap, ap₂, subst, arith, length, get_or, insert, rules}
use Rattle.std.specs.FinMap as fin
use Rattle.std.specs.Prelude.{T}
use Rattle.std.proofs.lemmas.List.{get_or_default}
use Rattle.doc_types.specs.SchemaCodes.{name_cmp}
use Rattle.documents.specs.Fields.{pairs}
use Rattle.documents.specs.Places.{place}
use Rattle.documents.proofs.FieldLaws.{put_there, put_between, sorted_put}
use Rattle.documents.proofs.field_lists.put_in.Goals as goal

pub returns-then-eq-clause-ok : goal.returns-then-eq-clause-ok
returns-then-eq-clause-ok c =
    let fields = c.args.fields.now.items in
    let is : c.place_of-at.result ≡ place c.args.field.name (pairs fields) = c.place_of-at.ensures.value ∙ ap₂ (λ n l. place n (pairs l)) c.name.ensures c.deref.ensures.value in
    let same : c.index.result.now.name ≡ c.args.field.name = search rules in
    let lt : c.place_of-at.result < length fields = search rules in
    rw is (put_there c.args.field fields c.index.result.now (omega (arith, is, lt))
    (ap (λ k. (get_or fields k c.index.result.now).name) (sym is) ∙ ap (λ f. f.name) (sym c.index.ensures) ∙ same))

pub returns-then-eq-clause-sorted : goal.returns-then-eq-clause-sorted
returns-then-eq-clause-sorted c sorted = subst (λ l. T (fin.is_sorted name_cmp l)) (sym (returns-then-eq-clause-ok c)) (sorted_put _ c.args.field.name c.args.field.value sorted)

pub returns-then-at-len-clause-ok : goal.returns-then-at-len-clause-ok
returns-then-at-len-clause-ok c =
    let fields = c.args.fields.now.items in
    let is : c.place_of-at.result ≡ place c.args.field.name (pairs fields) = c.place_of-at.ensures.value ∙ ap₂ (λ n l. place n (pairs l)) c.name.ensures c.deref.ensures.value in
    let end : length fields ≤ c.place_of-at.result = search rules in
    ap pairs c.in_ok-insert.ensures.items ∙ ap (λ k. pairs (insert fields k c.args.field)) is ∙ put_between c.args.field fields (λ lt d same. omega (arith, lt, is, end))

pub returns-clause-ok : goal.returns-clause-ok
returns-clause-ok c =
    let fields = c.args.fields.now.items in
    let is : c.place_of-at.result ≡ place c.args.field.name (pairs fields) = c.place_of-at.ensures.value ∙ ap₂ (λ n l. place n (pairs l)) c.name.ensures c.deref.ensures.value in
    let differs : c.index.result.now.name ≢ c.args.field.name = search rules in
    ap pairs c.in_ok-insert-2.ensures.items ∙ ap (λ k. pairs (insert fields k c.args.field)) is
    ∙ put_between c.args.field fields (λ lt d same. differs (ap (λ f. f.name) (c.index.ensures ∙ ap (λ k. get_or fields k c.index.result.now) is ∙ get_or_default fields _ c.index.result.now d lt) ∙ same))

pub returns-then-at-len-clause-sorted : goal.returns-then-at-len-clause-sorted
returns-then-at-len-clause-sorted c sorted = subst (λ l. T (fin.is_sorted name_cmp l)) (sym (returns-then-at-len-clause-ok c)) (sorted_put _ c.args.field.name c.args.field.value sorted)

pub returns-clause-sorted : goal.returns-clause-sorted
returns-clause-sorted c sorted = subst (λ l. T (fin.is_sorted name_cmp l)) (sym (returns-clause-ok c)) (sorted_put _ c.args.field.name c.args.field.value sorted)
