use Rattle.std.proofs.Common.{◌≡◌, ◌+◌, ◌∙◌, length, get_or, sym, ap, subst, refl, arith}
use Rattle.std.specs.Option.{option_copied}
use Rattle.std.specs.Ordering.{int_cmp, int_eq, nat_cmp}
use Rattle.std.specs.Cmp.Lexicographic.{slice_cmp}
use Rattle.indexmap.specs.IndexMap as table
use Rattle.indexmap.specs.IndexMap.{get_by_text}
use Rattle.document_indexes.specs.Entering.{IsLent}
use Rattle.document_rows.specs.Reading.{row_at, value_at}
use Rattle.view_changes.specs.Serving.{rows_of}
use Rattle.match_views.specs.declared.hits.Hit.{Hit}
use Rattle.group_counts.specs.Keyed.{number_of, text_of}
use Rattle.group_counts.specs.Figures.{HaveColumns, AreFigures}
use Rattle.group_counts.proofs.TallyLaws.{kept-wide}
use Rattle.group_counts.proofs.StepLaws.{take-next, place-there}
use Rattle.group_counts.proofs.taking.take_all.Goals as goal

pub take_value-requires-clause-numbers : goal.take_value-requires-clause-numbers
take_value-requires-clause-numbers g c =
    let outputs = (c.args.by.now).outputs in
    kept-wide outputs (8658654068736 + c.loop-hit.hit-index) 9223372036854775807 (table.get int_eq c.loop-hit.numbers) (omega (arith, c.loop-hit-test.true, c.requires.few)) ((c.loop-hit.invariant.0).kept 8658654068736 c.requires.numbers)

pub take_value-requires-clause-texts : goal.take_value-requires-clause-texts
take_value-requires-clause-texts g c =
    let outputs = (c.args.by.now).outputs in
    kept-wide outputs (8658654068736 + c.loop-hit.hit-index) 9223372036854775807 (get_by_text c.loop-hit.texts) (omega (arith, c.loop-hit-test.true, c.requires.few)) ((c.loop-hit.invariant.1).kept 8658654068736 c.requires.texts)

pub take_value-requires-clause-number : goal.take_value-requires-clause-number
take_value-requires-clause-number g c =
    let v = g.V.Lists.seen c.args.view.now in
    let by = c.args.by.now in
    let first : Hit = record { node = 0; local = 0 } in
    let hit = get_or c.args.hits.now c.loop-hit.hit-index first in
    let is : option_copied c.value_at-value.result ≡ value_at (rows_of hit.node v) hit.local by.field = c.value_at-value.ensures c.args.type_name.now c.lend-lent.ensures.column ∙ ap (value_at (rows_of hit.node v) hit.local) c.text-field.ensures in
    place-there v c.args.hits.now c.loop-hit.hit-index first number_of by.field (option_copied c.value_at-value.result) (table.get int_eq c.args.numbers.now) (table.get int_eq c.loop-hit.numbers) refl c.loop-hit-test.true is c.requires.of_numbers (c.loop-hit.invariant.0).stay

pub take_value-requires-clause-text : goal.take_value-requires-clause-text
take_value-requires-clause-text g c =
    let v = g.V.Lists.seen c.args.view.now in
    let by = c.args.by.now in
    let first : Hit = record { node = 0; local = 0 } in
    let hit = get_or c.args.hits.now c.loop-hit.hit-index first in
    let is : option_copied c.value_at-value.result ≡ value_at (rows_of hit.node v) hit.local by.field = c.value_at-value.ensures c.args.type_name.now c.lend-lent.ensures.column ∙ ap (value_at (rows_of hit.node v) hit.local) c.text-field.ensures in
    place-there v c.args.hits.now c.loop-hit.hit-index first text_of by.field (option_copied c.value_at-value.result) (get_by_text c.args.texts.now) (get_by_text c.loop-hit.texts) refl c.loop-hit-test.true is c.requires.of_texts (c.loop-hit.invariant.1).stay

pub take_value-requires-clause-same : goal.take_value-requires-clause-same
take_value-requires-clause-same g c = c.read_slots.ensures.same ∙ ap length c.items.ensures

pub loop-hit-preserved : goal.loop-hit-preserved
loop-hit-preserved g c =
    let v = g.V.Lists.seen c.args.view.now in
    let by = c.args.by.now in
    let name = c.args.type_name.now in
    let hits = c.args.hits.now in
    let i = c.loop-hit.hit-index in
    let first : Hit = record { node = 0; local = 0 } in
    let hit = get_or hits i first in
    let rows = rows_of hit.node v in
    let numbers = c.loop-hit.numbers in
    let texts = c.loop-hit.texts in
    let value = option_copied c.value_at-value.result in
    let field = c.text-field.result.now in
    let lent : IsLent name field (row_at rows) (option_copied c.lend-lent.result.column) = c.lend-lent.ensures.column in
    let is : value ≡ value_at rows hit.local by.field = c.value_at-value.ensures name lent ∙ ap (value_at rows hit.local) c.text-field.ensures in
    let slots = c.read_slots.new.slots in (
      take-next v hits i first number_of by.field value int_cmp by.outputs (table.get int_eq c.args.numbers.now) (table.get int_eq numbers) (table.get int_eq c.take_value.new.numbers) c.loop-hit-test.true is c.loop-hit.invariant.0
          (λ d r e. c.take_value.ensures.numbers d (subst (λ ks. AreFigures ks d slots) c.items.ensures (c.read_slots.ensures.figures d r)) e) (λ none. ap (table.get int_eq) (c.take_value.ensures.no_number none)),
      take-next v hits i first text_of by.field value (slice_cmp nat_cmp) by.outputs (get_by_text c.args.texts.now) (get_by_text texts) (get_by_text c.take_value.new.texts) c.loop-hit-test.true is c.loop-hit.invariant.1
          (λ d r e. c.take_value.ensures.texts d (subst (λ ks. AreFigures ks d slots) c.items.ensures (c.read_slots.ensures.figures d r)) e) (λ none. ap get_by_text (c.take_value.ensures.no_text none)),
      subst (λ n. IsLent name field (row_at (rows_of n v)) (option_copied c.lend-lent.result.column)) (sym c.lend-lent.ensures.node) lent,
      c.read_slots.ensures.same ∙ ap length c.items.ensures,
      subst (λ ks. HaveColumns name ks v slots) c.items.ensures c.read_slots.ensures.columns,
    )
