use Rattle.sub_databases.proofs.UniteLaws.{united_ready}
use Rattle.sub_databases.proofs.uniting.unite_by_copy.Goals as goal

pub returns : goal.returns
returns c =
    united_ready c.entries_find_room.ensures c.args.others.now c.args.entries.now c.args.list.now c.args.rows.now c.requires.coming c.requires.few c.len.ensures.distinct c.requires.have
    _ _ c.in_ok-join.ensures.ok c.in_ok-copy.ensures
