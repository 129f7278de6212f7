use Rattle.std.proofs.Common.{◌≡◌, ◌≢◌, ◌<◌, ◌==◌, ◌&&◌, ◌||◌, ℕ, List, Option, None, Some, true, false, sym, ap, ap₂, subst, ◌∙◌, cond, take, length, get_or, bytes_eq, arith, refl, suc}
use Rattle.std.specs.Option.{IfSome}
use Rattle.std.specs.List.{take-map}
use Rattle.std.proofs.lemmas.List.Folds.{list_any_more}
use Rattle.proof_basics.proofs.Numbers.{same-nat}
use Rattle.doc_types.specs.declared.values.FieldValue.{FieldValue}
use Rattle.documents.specs.Fields.{pairs}
use Rattle.field_indexes.specs.Fields.{cell, is_field}
use Rattle.field_indexes.specs.Told.{fields_of}
use Rattle.field_indexes.proofs.WordLaws.{own_bytes}
use Rattle.document_indexes.specs.Entering.{is_named, has_name, value_of}
use Rattle.document_indexes.proofs.CellLaws.{cell_moved, kind_moved, step_moved, named_more, if_none, both_names}
use Rattle.document_indexes.proofs.PairLaws.{no_pair, name_at, longer, not_before}
use Rattle.document_indexes.proofs.fields.move_fields.Goals as goal

pub move_down-requires-clause-free : goal.move_down-requires-clause-free
move_down-requires-clause-free c =
    let es = pairs c.args.fields.now in
    let at = c.loop-at.at in
    let name = c.args.name.now in
    let less : at < length es = (let e = longer c.args.fields.now in omega (arith, e)) in
    let fd : c.name.result.now ≡ (get_or es at no_pair).0 = c.name.ensures ∙ name_at c.args.fields.now at c.index-fields-at.result (omega arith) c.index-fields-at.is in
    let lacks = not_before es c.requires.named at less c.name.result.now fd c.name.result.now (own_bytes c.name.result.now) in
    if_none (fields_of c.loop-at.indexes name c.name.result.now) c.args.to
    (c.loop-at.invariant.0 name c.name.result.now c.args.to
    ∙ ap (λ b. cond b (cond (c.args.to == c.args.to) (cell (fields_of c.args.indexes.now) name c.name.result.now c.args.from) (cond (c.args.to == c.args.from) None (cell (fields_of c.args.indexes.now) name c.name.result.now c.args.to))) (cell (fields_of c.args.indexes.now) name c.name.result.now c.args.to))
    (ap₂ (λ t u. t && u) (own_bytes name) lacks)
    ∙ c.requires.free name c.name.result.now)

pub loop-at-preserved : goal.loop-at-preserved
loop-at-preserved c =
    let es = pairs c.args.fields.now in
    let at = c.loop-at.at in
    let name = c.args.name.now in
    let less : at < length es = (let e = longer c.args.fields.now in omega (arith, e)) in
    let x = c.args.from in
    let z = c.args.to in
    let init = fields_of c.args.indexes.now in
    let cur = fields_of c.loop-at.indexes in
    let new = fields_of c.move_down.new.self in
    let own = c.name.result.now in
    let other : z ≢ x = λ e. omega (arith, c.requires.below, e) in
    let fd : own ≡ (get_or es at no_pair).0 = c.name.ensures ∙ name_at c.args.fields.now at c.index-fields-at.result (omega arith) c.index-fields-at.is in
    let lacks = not_before es c.requires.named at less own fd own (own_bytes own) in
    let free : cell cur name own z ≡ None =
    (c.loop-at.invariant.0 name own z
    ∙ ap (λ b. cond b (cond (z == z) (cell init name own x) (cond (z == x) None (cell init name own z))) (cell init name own z)) (ap₂ (λ t u. t && u) (own_bytes name) lacks)
    ∙ c.requires.free name own) in
    let same : (n f : List ℕ) → is_field name own n f ≡ true → (j : ℕ) → cell cur n f j ≡ cell init n f j = λ n f e j.
    (let both = both_names name own n f e in
    c.loop-at.invariant.0 n f j
    ∙ ap (λ b. cond b (cond (j == z) (cell init n f x) (cond (j == x) None (cell init n f j))) (cell init n f j)) (ap₂ (λ t u. t && u) both.0 (not_before es c.requires.named at less own fd f both.1))) in (
      λ n f k.
          step_moved (is_named name (take at es) n f) (is_field name own n f) (cell new n f k) (cond (k == z) (cell cur n f x) (cond (k == x) None (cell cur n f k)))
          (cond (k == z) (cell init n f x) (cond (k == x) None (cell init n f k))) (cell cur n f k) (cell init n f k)
          (cell_moved cur new name own x z free other c.move_down.ensures n f k) (c.loop-at.invariant.0 n f k)
          (λ e. ap₂ (λ (a b : Option FieldValue). cond (k == z) a (cond (k == x) None b)) (same n f e x) (same n f e k))
          ∙ ap (λ b. cond b (cond (k == z) (cell init n f x) (cond (k == x) None (cell init n f k))) (cell init n f k))
          (sym (named_more name n f own (has_name f (take at es))) ∙ ap (λ y. bytes_eq name n && (has_name f (take at es) || bytes_eq f y)) fd ∙ ap (λ b. bytes_eq name n && b) (sym (list_any_more (λ e. bytes_eq f e.0) es at no_pair less))),
      λ n f. kind_moved cur new name own x z c.move_down.ensures n f ∙ c.loop-at.invariant.1 n f,
    )
