use Rattle.sub_databases.proofs.RowSteps.{local_some}
use Rattle.sub_databases.proofs.parts.SubDatabases.local.Goals as goal

pub returns-clause-ready : goal.returns-clause-ready
returns-clause-ready c = rw (← c.self.view_is) (local_some c.args.id.now c.self.inside.ready.rows c.local.result c.local.ensures)
