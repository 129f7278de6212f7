use Rattle.std.proofs.Common.{◌≡◌, refl, sym, ap, subst, ◌∙◌, cond, Option, None, Some, option_map, bytes_eq, rules, arith}
use Rattle.std.specs.BTreeMap.{get_by_text}
use Rattle.std.specs.Option.{IfSome}
use Rattle.std.specs.FinMap as fin
use Rattle.std.proofs.lemmas.Map.Text.{text_keys, btree_map_updates_text}
use Rattle.proof_basics.proofs.Results.{on_ok, on_err}
use Rattle.doc_types.specs.Values.{kind_of}
use Rattle.attribute_columns.specs.Columns.{Held, without_value, with_moved}
use Rattle.field_indexes.specs.Fields.{entered, field_in, field_at}
use Rattle.field_indexes.proofs.FieldLaws.{same_at, none_changed, row_changed, row_same, none_in}
use Rattle.field_indexes.proofs.field_maps.leave_in.Goals as goal

pub returns-in-Some : goal.returns-in-Some
returns-in-Some c =
    let old = c.args.fields.now in
    let word = c.args.field.now in
    let there : get_by_text old word ≡ Some c.in-Some.index.now = sym c.in-Some.ensures.value in
    λ q. btree_map_updates_text word old (c.get_mut.follows.lender c.leave.new.self) (Some c.leave.new.self) ((c.get_mut.follows.holds c.leave.new.self).3 (search rules)) q
    ∙ ap (λ (o : Option Held). cond (bytes_eq word q) o (get_by_text old q)) (ap Some c.leave.ensures ∙ ap (option_map (without_value c.args.local)) (sym there))
