use Rattle.std.proofs.Common.{◌++◌, ◌∷◌, [], ◌∙◌, cond, rules, sym, ap}
use Rattle.std.proofs.lemmas.List.Elements.{filter_more}
use Rattle.sub_databases.specs.Changes.{is_waiting}
use Rattle.sub_databases.proofs.filling.waiting.Goals as goal

pub loop-entry-preserved : goal.loop-entry-preserved
loop-entry-preserved c =
    let p = is_waiting c.args.rows.now.rows in
    let e = c.entry-item.result in
    let xs = c.args.entries.now in
    let n = c.loop-entry.entry-index in
    let more = filter_more p xs n e (search rules) in
    c.in_ok-push_waiting.ensures ∙ ap (λ l. l ++ cond (p e) (e ∷ []) []) c.loop-entry.invariant ∙ sym (rw (← c.entry-item.is) at more)
