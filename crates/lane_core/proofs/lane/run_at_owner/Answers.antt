use Rattle.lane_core.proofs.LineRuns.{owner_alone, at_owner}
use Rattle.lane_core.proofs.lane.run_at_owner.Goals as goal

pub finish-outcome-requires : goal.finish-outcome-requires
finish-outcome-requires g c = owner_alone _ c.args.operation.now _ _ c.requires.idle c.in-Begun.ensures.begins

pub returns-clause-ok : goal.returns-clause-ok
returns-clause-ok g c = at_owner _ c.args.operation.now _ _ _ _ c.requires.idle c.requires.fresh c.in-Begun.ensures.begins c.finish-outcome.ensures.finish c.journal-journal.ensures.lane
