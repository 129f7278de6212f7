use Rattle.sub_databases.proofs.PartLaws.{parts_none}
use Rattle.sub_databases.proofs.parts.SubDatabases.new.Goals as goal

pub invariant_of-result : goal.invariant_of-result
invariant_of-result c = rw (c.in_ok-new.ensures, c.new.ensures) (parts_none c.args.schema.now)
