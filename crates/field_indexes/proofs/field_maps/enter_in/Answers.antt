use Rattle.std.proofs.Common.{◌≡◌, refl, sym, ap, subst, ◌∙◌, cond, Option, None, Some, option_map, bytes_eq, rules, arith}
use Rattle.std.specs.BTreeMap.{get_by_text}
use Rattle.std.specs.Option.{IfSome}
use Rattle.std.specs.FinMap as fin
use Rattle.std.specs.FinMap.{get-empty}
use Rattle.std.specs.Ordering.{nat_cmp}
use Rattle.std.proofs.lemmas.Map.Text.{text_keys, btree_map_updates_text}
use Rattle.proof_basics.proofs.Results.{on_ok, on_err}
use Rattle.doc_types.specs.Values.{kind_of}
use Rattle.attribute_columns.specs.Columns.{Held, with_value, empty_column}
use Rattle.field_indexes.specs.Fields.{entered}
use Rattle.field_indexes.proofs.FieldLaws.{same_at}
use Rattle.field_indexes.proofs.field_maps.enter_in.Goals as goal

pub enter-requires-clause-kind : goal.enter-requires-clause-kind
enter-requires-clause-kind c =
    let there : get_by_text c.args.fields.now c.args.field.now ≡ Some c.in-Some.index.now = sym c.in-Some.ensures.value in
    subst (λ o. IfSome o (λ h. kind_of c.args.value.now ≡ h.kind)) there c.requires.kind

pub enter-requires-clause-free : goal.enter-requires-clause-free
enter-requires-clause-free c =
    let there : get_by_text c.args.fields.now c.args.field.now ≡ Some c.in-Some.index.now = sym c.in-Some.ensures.value in
    subst (λ o. IfSome o (λ h. fin.get h.values c.args.local ≡ None)) there c.requires.free

pub returns-in-Some-clause-ok : goal.returns-in-Some-clause-ok
returns-in-Some-clause-ok c =
    let old = c.args.fields.now in
    let word = c.args.field.now in
    let there : get_by_text old word ≡ Some c.in-Some.index.now = sym c.in-Some.ensures.value in
    on_ok c.enter.result (λ e q.
    btree_map_updates_text word old (c.get_mut.follows.lender c.enter.new.self) (Some c.enter.new.self) ((c.get_mut.follows.holds c.enter.new.self).3 (search rules)) q
    ∙ ap (λ (o : Option Held). cond (bytes_eq word q) o (get_by_text old q)) (ap Some e ∙ ap (λ o. Some (entered c.args.local c.args.value.now o)) (sym there))) c.enter.ensures.ok

pub returns-in-Some-clause-err : goal.returns-in-Some-clause-err
returns-in-Some-clause-err c =
    let old = c.args.fields.now in
    let word = c.args.field.now in
    let there : get_by_text old word ≡ Some c.in-Some.index.now = sym c.in-Some.ensures.value in
    on_err c.enter.result (λ e q.
    btree_map_updates_text word old (c.get_mut.follows.lender c.enter.new.self) (Some c.enter.new.self) ((c.get_mut.follows.holds c.enter.new.self).3 (search rules)) q
    ∙ ap (λ (o : Option Held). cond (bytes_eq word q) o (get_by_text old q)) (ap Some e ∙ sym there)
    ∙ same_at (get_by_text old) word q) c.enter.ensures.err

pub enter-requires-2-clause-free : goal.enter-requires-2-clause-free
enter-requires-2-clause-free c = ap (λ (h : Held). fin.get h.values c.args.local) c.new-index.ensures ∙ get-empty nat_cmp c.args.local

pub returns-clause-ok : goal.returns-clause-ok
returns-clause-ok c = λ f.
    let old = c.args.fields.now in
    let word = c.args.field.now in
    let fresh : get_by_text old word ≡ None = sym c.in_default.ensures.value in
    let made : c.enter-2.new.self ≡ entered c.args.local c.args.value.now None = c.in_ok-enter.ensures.ok ∙ ap (with_value c.args.local c.args.value.now) (c.new-index.ensures ∙ ap empty_column c.kind.ensures) in
    let step : get_by_text c.insert.new.self f ≡ cond (bytes_eq word f) (Some c.enter-2.new.self) (get_by_text old f) = grind (arith, text_keys) in
    step ∙ ap (λ (o : Option Held). cond (bytes_eq word f) o (get_by_text old f)) (ap Some made ∙ ap (λ o. Some (entered c.args.local c.args.value.now o)) (sym fresh))
