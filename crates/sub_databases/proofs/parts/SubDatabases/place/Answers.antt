use Rattle.std.proofs.Common.{◌∙◌, ap₂}
use Rattle.sub_databases.specs.Parts.{entry_place}
use Rattle.sub_databases.proofs.RowSteps.{local_some}
use Rattle.sub_databases.proofs.parts.SubDatabases.place.Goals as goal

pub returns-clause-place : goal.returns-clause-place
returns-clause-place c =
    rw (← c.self.view_is) (c.place_by.ensures
    ∙ ap₂ (entry_place c.args.id.now) c.get.ensures (c.is_some.ensures ∙ local_some c.args.id.now c.self.inside.ready.rows c.local.result c.local.ensures))
