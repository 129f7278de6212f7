use Rattle.std.proofs.Common.{◌∙◌, ap}
use Rattle.node_rows.specs.TypedRows.{with_rows, all_left}
use Rattle.sub_databases.proofs.UniteLaws.{united_waiting}
use Rattle.sub_databases.proofs.uniting.unite_waiting.Goals as goal

pub returns : goal.returns
returns c =
    let t = c.args.rows.now in
    united_waiting c.args.others.now c.args.entries.now c.args.list.items c.ousting-list.result.items t c.requires.listed c.ousting-list.ensures
    _ _ c.in_ok-join.ensures.ok (c.leave_all.ensures ∙ ap (λ es. with_rows (all_left es t.rows) t) c.deref.ensures.value)
