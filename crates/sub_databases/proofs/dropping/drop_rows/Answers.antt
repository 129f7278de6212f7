use Rattle.std.proofs.Common.{◌∙◌, ap}
use Rattle.node_rows.specs.TypedRows.{with_rows, all_left}
use Rattle.sub_databases.proofs.ListLaws.{bucket_left}
use Rattle.sub_databases.proofs.dropping.drop_rows.Goals as goal

pub returns-in-Ok : goal.returns-in-Ok
returns-in-Ok c =
    let t = c.args.rows.now in
    c.leave_all.ensures
    ∙ ap (λ rs. with_rows rs t)
    (ap (λ es. all_left es t.rows) c.deref.ensures.value ∙ bucket_left c.args.entries.now c.args.bucket c.in-Ok.list.items c.in-Ok.ensures.entries t.rows c.requires)
