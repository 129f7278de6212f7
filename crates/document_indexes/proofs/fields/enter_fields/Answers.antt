use Rattle.std.proofs.Common.{◌≡◌, ◌≢◌, ◌<◌, ◌==◌, ◌&&◌, ◌||◌, ℕ, List, Option, None, Some, true, false, sym, ap, ap₂, subst, ◌∙◌, cond, take, length, get_or, bytes_eq, arith, refl, suc}
use Rattle.std.specs.Option.{IfSome}
use Rattle.std.specs.List.{take-map}
use Rattle.std.proofs.lemmas.List.Folds.{list_any_more}
use Rattle.proof_basics.proofs.Numbers.{same-nat}
use Rattle.doc_types.specs.declared.values.FieldValue.{FieldValue}
use Rattle.documents.specs.Fields.{pairs}
use Rattle.field_indexes.specs.Fields.{cell, is_field}
use Rattle.field_indexes.specs.Told.{fields_of}
use Rattle.field_indexes.proofs.WordLaws.{own_bytes}
use Rattle.document_indexes.specs.Entering.{is_named, has_name, value_of}
use Rattle.document_indexes.proofs.CellLaws.{cell_entered, cell_same, kind_fits, kind_entered, kind_back, kind_known, step_entered, step_back, if_none, kind_in_field, nothing_yet, same_number}
use Rattle.document_indexes.proofs.PairLaws.{no_pair, name_at, value_at, longer, not_before, none_named, own_value, value_grows}
use Rattle.document_indexes.proofs.fields.enter_fields.Goals as goal

pub enter-requires-clause-kind : goal.enter-requires-clause-kind
enter-requires-clause-kind c =
    let es = pairs c.args.fields.now in
    let at = c.loop-at.at in
    let name = c.args.name.now in
    let less : at < length es = (let e = longer c.args.fields.now in omega (arith, e)) in
    let own = c.name.result.now in
    let v = c.value.result.now in
    let fd : own ≡ (get_or es at no_pair).0 = c.name.ensures ∙ name_at c.args.fields.now at c.index-fields-at.result (omega arith) c.index-fields-at.is in
    let fv : v ≡ (get_or es at no_pair).1 = c.value.ensures ∙ value_at c.args.fields.now at c.index-fields-at.result (omega arith) c.index-fields-at.is in
    let found : value_of own es ≡ Some v = ap (λ y. value_of y es) fd ∙ own_value es c.requires.named at no_pair less ∙ ap Some (sym fv) in
    kind_fits (fields_of c.args.indexes.now) (fields_of c.loop-at.indexes) name own es v found c.requires.fit (c.loop-at.invariant.1 name own)

pub enter-requires-clause-free : goal.enter-requires-clause-free
enter-requires-clause-free c =
    let es = pairs c.args.fields.now in
    let at = c.loop-at.at in
    let name = c.args.name.now in
    let less : at < length es = (let e = longer c.args.fields.now in omega (arith, e)) in
    let own = c.name.result.now in
    let l = c.args.local in
    let fd : own ≡ (get_or es at no_pair).0 = c.name.ensures ∙ name_at c.args.fields.now at c.index-fields-at.result (omega arith) c.index-fields-at.is in
    let lacks = not_before es c.requires.named at less own fd own (own_bytes own) in
    if_none (fields_of c.loop-at.indexes name own) l
    (c.loop-at.invariant.0 name own l
    ∙ ap (λ b. cond b (value_of own (take at es)) (cell (fields_of c.args.indexes.now) name own l)) (ap₂ (λ t u. t && u) (same-nat l) (own_bytes name))
    ∙ none_named own (take at es) lacks)

pub loop-at-preserved : goal.loop-at-preserved
loop-at-preserved c =
    let es = pairs c.args.fields.now in
    let at = c.loop-at.at in
    let name = c.args.name.now in
    let less : at < length es = (let e = longer c.args.fields.now in omega (arith, e)) in
    let own = c.name.result.now in
    let v = c.value.result.now in
    let l = c.args.local in
    let init = fields_of c.args.indexes.now in
    let cur = fields_of c.loop-at.indexes in
    let new = fields_of c.enter.new.self in
    let fd : own ≡ (get_or es at no_pair).0 = c.name.ensures ∙ name_at c.args.fields.now at c.index-fields-at.result (omega arith) c.index-fields-at.is in
    let fv : v ≡ (get_or es at no_pair).1 = c.value.ensures ∙ value_at c.args.fields.now at c.index-fields-at.result (omega arith) c.index-fields-at.is in
    let found : value_of own es ≡ Some v = ap (λ y. value_of y es) fd ∙ own_value es c.requires.named at no_pair less ∙ ap Some (sym fv) in (
      λ n f k.
          step_entered (k == l) (bytes_eq name n) (bytes_eq own f) (has_name f (take at es)) (cell new n f k) (Some v) (cell cur n f k) (value_of f (take at es)) (cell init n f k)
          (cell_entered cur new name own l v c.in_default.ensures.ok n f k) (c.loop-at.invariant.0 n f k)
          (not_before es c.requires.named at less own fd f) (none_named f (take at es))
          ∙ ap (λ o. cond ((k == l) && bytes_eq name n) o (cell init n f k)) (value_grows f es at own v fd fv less),
      kind_entered init cur new name own es l v found c.loop-at.invariant.1 c.in_default.ensures.ok,
    )

pub returns-in-Err-clause-err : goal.returns-in-Err-clause-err
returns-in-Err-clause-err c = λ n f k.
    let es = pairs c.args.fields.now in
    let at = c.loop-at.at in
    let name = c.args.name.now in
    let l = c.args.local in
    let init = fields_of c.args.indexes.now in
    let cur = fields_of c.loop-at.indexes in
    let new = fields_of c.leave_fields.new.indexes in
    step_back (k == l) (bytes_eq name n) (has_name f (take at es)) (cell new n f k) (cell cur n f k) (value_of f (take at es)) (cell init n f k)
    (c.leave_fields.ensures.cells n f k
    ∙ ap₂ (λ xs (o : Option FieldValue). cond ((k == l) && is_named name xs n f) None o) (sym (take-map (λ y. (y.name, y.value)) at c.args.fields.now)) (cell_same cur (fields_of c.enter.new.self) n f k (c.in-Err.ensures.err n f)))
    (c.loop-at.invariant.0 n f k)
    (λ e. ap (cell init n f) (same_number k l e) ∙ c.requires.free n f) (none_named f (take at es))

pub returns-in-Err-clause-kinds : goal.returns-in-Err-clause-kinds
returns-in-Err-clause-kinds c = λ n f.
    let es = pairs c.args.fields.now in
    let name = c.args.name.now in
    let init = fields_of c.args.indexes.now in
    let cur = fields_of c.loop-at.indexes in
    kind_back init cur (fields_of c.leave_fields.new.indexes) name es n f (c.leave_fields.ensures.kinds n f ∙ ap kind_in_field (c.in-Err.ensures.err n f)) (c.loop-at.invariant.1 n f)

pub loop-at-init : goal.loop-at-init
loop-at-init c = (λ n f k. sym (nothing_yet (k == c.args.local) (bytes_eq c.args.name.now n) (cell (fields_of c.args.indexes.now) n f k) (λ e. ap (cell (fields_of c.args.indexes.now) n f) (same_number k c.args.local e) ∙ c.requires.free n f)), kind_known (fields_of c.args.indexes.now) c.args.name.now (pairs c.args.fields.now))
