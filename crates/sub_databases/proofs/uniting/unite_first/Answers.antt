use Rattle.std.proofs.Common.{◌∙◌, ap}
use Rattle.sub_databases.specs.Uniting.{without_all}
use Rattle.sub_databases.proofs.UniteLaws.{coming_new, taken_back, united_ready}
use Rattle.sub_databases.proofs.uniting.unite_first.Goals as goal

pub take_all-requires : goal.take_all-requires
take_all-requires c = record { new = coming_new c.args.others.now c.args.entries.now c.args.list.now c.args.rows.now c.requires.coming c.requires.have c.requires.first }

pub returns-in-Err : goal.returns-in-Err
returns-in-Err c =
    let list = c.args.list.now in (
      c.forget_all.ensures ∙ ap (without_all list) c.in_ok-join.ensures.ok ∙ taken_back c.args.others.now c.args.entries.now list c.requires.coming c.requires.first,
      c.in-Err.ensures.err,
    )

pub returns : goal.returns
returns c =
    united_ready c.entries_find_room.ensures c.args.others.now c.args.entries.now c.args.list.now c.args.rows.now c.requires.coming c.requires.few c.len.ensures.distinct c.requires.have
    _ _ c.in_ok-join.ensures.ok c.in_default.ensures.ok
