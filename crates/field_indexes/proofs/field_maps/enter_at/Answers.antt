use Rattle.std.proofs.Common.{◌≡◌, refl, sym, ap, subst, ◌∙◌, cond, Option, None, Some, option_map, bytes_eq, rules, arith}
use Rattle.std.specs.BTreeMap.{get_by_text}
use Rattle.std.specs.Option.{IfSome}
use Rattle.std.specs.FinMap as fin
use Rattle.std.proofs.lemmas.Map.Text.{text_keys, btree_map_updates_text}
use Rattle.proof_basics.proofs.Results.{on_ok, on_err}
use Rattle.doc_types.specs.Values.{kind_of}
use Rattle.attribute_columns.specs.Columns.{Held, without_value, with_moved}
use Rattle.field_indexes.specs.Fields.{entered, field_in, field_at}
use Rattle.field_indexes.proofs.FieldLaws.{same_at, none_changed, row_changed, row_same, none_in}
use Rattle.field_indexes.proofs.field_maps.enter_at.Goals as goal

pub enter_in-requires-clause-kind : goal.enter_in-requires-clause-kind
enter_in-requires-clause-kind c =
    let there : get_by_text c.args.types.now c.args.name.now ≡ Some c.in-Some.fields.now = sym c.in-Some.ensures.value in
    subst (λ o. IfSome (field_in o c.args.field.now) (λ h. kind_of c.args.value.now ≡ h.kind)) there c.requires.kind

pub enter_in-requires-clause-free : goal.enter_in-requires-clause-free
enter_in-requires-clause-free c =
    let there : get_by_text c.args.types.now c.args.name.now ≡ Some c.in-Some.fields.now = sym c.in-Some.ensures.value in
    subst (λ o. IfSome (field_in o c.args.field.now) (λ h. fin.get h.values c.args.local ≡ None)) there c.requires.free

pub returns-in-Some-clause-ok : goal.returns-in-Some-clause-ok
returns-in-Some-clause-ok c =
    let old = c.args.types.now in
    let name = c.args.name.now in
    let field = c.args.field.now in
    let l = c.args.local in
    let v = c.args.value.now in
    let there : get_by_text old name ≡ Some c.in-Some.fields.now = sym c.in-Some.ensures.value in
    let row : (f : _) → field_at old name f ≡ get_by_text c.in-Some.fields.now f = λ f. ap (λ o. field_in o f) there in
    on_ok c.enter_in.result (λ e.
    row_changed old (c.get_mut.follows.lender c.enter_in.new.fields) c.enter_in.new.fields (get_by_text c.in-Some.fields.now) name field (Some (entered l v (field_at old name field)))
    (btree_map_updates_text name old (c.get_mut.follows.lender c.enter_in.new.fields) (Some c.enter_in.new.fields) ((c.get_mut.follows.holds c.enter_in.new.fields).3 (search rules)))
    row (λ f. e f ∙ ap (λ (o : Option Held). cond (bytes_eq field f) (Some (entered l v o)) (get_by_text c.in-Some.fields.now f)) (sym (row field)))) c.enter_in.ensures.ok

pub returns-in-Some-clause-err : goal.returns-in-Some-clause-err
returns-in-Some-clause-err c =
    let old = c.args.types.now in
    let name = c.args.name.now in
    let there : get_by_text old name ≡ Some c.in-Some.fields.now = sym c.in-Some.ensures.value in
    on_err c.enter_in.result (λ e.
    row_same old (c.get_mut.follows.lender c.enter_in.new.fields) c.enter_in.new.fields c.in-Some.fields.now name
    (btree_map_updates_text name old (c.get_mut.follows.lender c.enter_in.new.fields) (Some c.enter_in.new.fields) ((c.get_mut.follows.holds c.enter_in.new.fields).3 (search rules)))
    there e) c.enter_in.ensures.err

pub returns-clause-ok : goal.returns-clause-ok
returns-clause-ok c =
    let old = c.args.types.now in
    let name = c.args.name.now in
    let field = c.args.field.now in
    let l = c.args.local in
    let v = c.args.value.now in
    let fresh : get_by_text old name ≡ None = sym c.in_default.ensures.value in
    let none : (f : _) → get_by_text c.new-fields.result f ≡ None = λ f. rw c.new-fields.ensures.empty refl in
    let row : (f : _) → field_at old name f ≡ get_by_text c.new-fields.result f = λ f. ap (λ o. field_in o f) fresh ∙ sym (none f) in
    row_changed old c.insert.new.self c.enter_in-2.new.fields (get_by_text c.new-fields.result) name field (Some (entered l v (field_at old name field)))
    (λ n. grind (arith, text_keys)) row
    (λ f. c.in_ok-enter_in.ensures.ok f ∙ ap (λ (o : Option Held). cond (bytes_eq field f) (Some (entered l v o)) (get_by_text c.new-fields.result f)) (sym (row field)))
