use Rattle.std.proofs.Common.{◌≡◌, ◌<◌, [], length, sym, ap, ◌∙◌, arith, refl, rules, get_or}
use Rattle.std.specs.FinMap as fin
use Rattle.view_changes.specs.Serving.{rows_of}
use Rattle.std.proofs.lemmas.List.{take_all, get_or_default}
use Rattle.document_rows.specs.Reading.{places_where}
use Rattle.query_text.specs.Truth.{contains}
use Rattle.match_views.specs.Merging.{cut}
use Rattle.match_views.proofs.TruthLaws.{found_none, contains_none, length_none, has_all, all_more, all_still, all_found}
use Rattle.match_views.proofs.terms.containing.Goals.{then-at-best+in_ok-found-2, else-at-best}
use Rattle.match_views.proofs.terms.containing.Goals as goal

pub returns-then-is_empty : goal.returns-then-is_empty
returns-then-is_empty g c = found_none c.args.type_name.now (λ d. contains c.args.tokens.now (fin.get d.fields c.args.field.now)) (rows_of c.args.node (g.L.Lists.seen c.args.lists.now)) c.new.result.items
    (λ d. contains_none c.args.tokens.now (fin.get d.fields c.args.field.now) (length_none c.args.tokens.now (sym c.is_empty.ensures ∙ c.if-is_empty.true))) c.new.ensures.items

pub loop-at-preserved : goal.loop-at-preserved
loop-at-preserved g c =
    let rows = rows_of c.args.node (g.L.Lists.seen c.args.lists.now) in
    let name = c.args.type_name.now in
    let field = c.args.field.now in
    let tokens = c.args.tokens.now in
    let first = get_or tokens c.rarest-best.result [] in
    let less : c.loop-at.at < length tokens = omega arith in
    elim c.if-at-best.branch [
      | then-at-best+in_ok-found-2 w ↦
          (let token : get_or tokens c.loop-at.at [] ≡ w.text-then-at-best.result.now = get_or_default tokens c.loop-at.at [] w.index-tokens-at.result less ∙ sym w.index-tokens-at.is ∙ sym w.text-then-at-best.ensures in
          ap (λ v. v.items) w.found-is ∙ all_more name field first tokens c.loop-at.at w.text-then-at-best.result.now rows c.loop-at.found.items w.with_token.result.now w.in_ok-found-2.found.items less token c.loop-at.invariant w.with_token.ensures.ids
          (w.in_ok-found-2.ensures ∙ ap (λ xs. cut xs w.with_token.result.now) w.deref.ensures.value))
      | else-at-best w ↦
          ap (λ v. v.items) w.found-is ∙ all_still name field first tokens c.loop-at.at rows c.loop-at.found.items less (ap (λ at. get_or tokens at []) (let e : c.loop-at.at ≡ c.rarest-best.result = search rules in e)) c.loop-at.invariant
    ]

pub returns : goal.returns
returns g c =
    let tokens = c.args.tokens.now in
    all_found c.args.type_name.now c.args.field.now (get_or tokens c.rarest-best.result []) tokens c.rarest-best.result (rows_of c.args.node (g.L.Lists.seen c.args.lists.now)) c.loop-at.found.items c.rarest-best.ensures refl
    (c.loop-at.invariant ∙ ap (λ ts. places_where (has_all c.args.type_name.now c.args.field.now (get_or tokens c.rarest-best.result []) ts) (rows_of c.args.node (g.L.Lists.seen c.args.lists.now))) (take_all c.loop-at.at tokens (omega arith)))
