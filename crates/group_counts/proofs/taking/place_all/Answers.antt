use Rattle.std.proofs.Common.{◌≡◌, get_or, sym, ap, subst, ◌∙◌}
use Rattle.std.specs.Option.{option_copied}
use Rattle.std.specs.Ordering.{int_eq}
use Rattle.indexmap.specs.IndexMap as table
use Rattle.indexmap.specs.IndexMap.{get_by_text}
use Rattle.document_indexes.specs.Entering.{IsLent}
use Rattle.document_rows.specs.Reading.{row_at, value_at}
use Rattle.view_changes.specs.Serving.{rows_of}
use Rattle.match_views.specs.declared.hits.Hit.{Hit}
use Rattle.group_counts.specs.Keyed.{number_of, text_of}
use Rattle.group_counts.proofs.PlaceLaws.{places-both}
use Rattle.group_counts.proofs.StepLaws.{place-next}
use Rattle.group_counts.proofs.taking.place_all.Goals as goal

pub returns-in_err-place_value-clause-numbers : goal.returns-in_err-place_value-clause-numbers
returns-in_err-place_value-clause-numbers g c =
    let old = c.args.numbers.now in
    let now = c.loop-hit.numbers in
    let new = c.place_value.new.numbers in
    places-both (c.args.by.now).outputs old.entries now.entries new.entries (table.get int_eq old) (table.get int_eq now) (table.get int_eq new) c.loop-hit.invariant.0 c.place_value.ensures.numbers

pub returns-in_err-place_value-clause-texts : goal.returns-in_err-place_value-clause-texts
returns-in_err-place_value-clause-texts g c =
    let old = c.args.texts.now in
    let now = c.loop-hit.texts in
    let new = c.place_value.new.texts in
    places-both (c.args.by.now).outputs old.entries now.entries new.entries (get_by_text old) (get_by_text now) (get_by_text new) c.loop-hit.invariant.1 c.place_value.ensures.texts

pub loop-hit-preserved : goal.loop-hit-preserved
loop-hit-preserved g c =
    let v = g.V.Lists.seen c.args.view.now in
    let by = c.args.by.now in
    let name = c.args.type_name.now in
    let hits = c.args.hits.now in
    let i = c.loop-hit.hit-index in
    let first : Hit = record { node = 0; local = 0 } in
    let hit = get_or hits i first in
    let rows = rows_of hit.node v in
    let numbers = c.args.numbers.now in
    let texts = c.args.texts.now in
    let numbers_now = c.loop-hit.numbers in
    let texts_now = c.loop-hit.texts in
    let numbers_new = c.place_value.new.numbers in
    let texts_new = c.place_value.new.texts in
    let value = option_copied c.value_at-value.result in
    let field = c.text-field.result.now in
    let lent : IsLent name field (row_at rows) (option_copied c.lend-lent.result.column) = c.lend-lent.ensures.column in
    let is : value ≡ value_at rows hit.local by.field = c.value_at-value.ensures name lent ∙ ap (value_at rows hit.local) c.text-field.ensures in (
      places-both by.outputs numbers.entries numbers_now.entries numbers_new.entries (table.get int_eq numbers) (table.get int_eq numbers_now) (table.get int_eq numbers_new) c.loop-hit.invariant.0 c.in_ok-place_value.ensures.numbers,
      places-both by.outputs texts.entries texts_now.entries texts_new.entries (get_by_text texts) (get_by_text texts_now) (get_by_text texts_new) c.loop-hit.invariant.1 c.in_ok-place_value.ensures.texts,
      place-next v hits i first number_of by.field value (table.get int_eq numbers_now) (table.get int_eq numbers_new) c.loop-hit-test.true is (c.in_ok-place_value.ensures.numbers).stay c.loop-hit.invariant.2 c.in_ok-place_value.ensures.number,
      place-next v hits i first text_of by.field value (get_by_text texts_now) (get_by_text texts_new) c.loop-hit-test.true is (c.in_ok-place_value.ensures.texts).stay c.loop-hit.invariant.3 c.in_ok-place_value.ensures.text,
      subst (λ n. IsLent name field (row_at (rows_of n v)) (option_copied c.lend-lent.result.column)) (sym c.lend-lent.ensures.node) lent,
    )
