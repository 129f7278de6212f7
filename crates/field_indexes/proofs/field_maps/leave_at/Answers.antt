use Rattle.std.proofs.Common.{◌≡◌, refl, sym, ap, subst, ◌∙◌, cond, Option, None, Some, option_map, bytes_eq, rules, arith}
use Rattle.std.specs.BTreeMap.{get_by_text}
use Rattle.std.specs.Option.{IfSome}
use Rattle.std.specs.FinMap as fin
use Rattle.std.proofs.lemmas.Map.Text.{text_keys, btree_map_updates_text}
use Rattle.proof_basics.proofs.Results.{on_ok, on_err}
use Rattle.doc_types.specs.Values.{kind_of}
use Rattle.attribute_columns.specs.Columns.{Held, without_value, with_moved}
use Rattle.field_indexes.specs.Fields.{entered, field_in, field_at}
use Rattle.field_indexes.proofs.FieldLaws.{same_at, none_changed, row_changed, row_same, none_in}
use Rattle.field_indexes.proofs.field_maps.leave_at.Goals as goal

pub returns-in-Some : goal.returns-in-Some
returns-in-Some c =
    let old = c.args.types.now in
    let name = c.args.name.now in
    let field = c.args.field.now in
    let there : get_by_text old name ≡ Some c.in-Some.fields.now = sym c.in-Some.ensures.value in
    let row : (f : _) → field_at old name f ≡ get_by_text c.in-Some.fields.now f = λ f. ap (λ o. field_in o f) there in
    row_changed old (c.get_mut.follows.lender c.leave_in.new.fields) c.leave_in.new.fields (get_by_text c.in-Some.fields.now) name field (option_map (without_value c.args.local) (field_at old name field))
    (btree_map_updates_text name old (c.get_mut.follows.lender c.leave_in.new.fields) (Some c.leave_in.new.fields) ((c.get_mut.follows.holds c.leave_in.new.fields).3 (search rules)))
    row (λ f. c.leave_in.ensures f ∙ ap (λ (o : Option Held). cond (bytes_eq field f) (option_map (without_value c.args.local) o) (get_by_text c.in-Some.fields.now f)) (sym (row field)))
