use Rattle.lane_core.proofs.LineRuns.{via_alone, at_via, refused_via}
use Rattle.lane_core.proofs.lane.run_via.Goals as goal

pub finish-outcome-requires : goal.finish-outcome-requires
finish-outcome-requires g c = via_alone _ _ c.args.operation.now _ _ c.requires.idle c.in-Begun.ensures.begins

pub returns-in-Refused-clause-ok : goal.returns-in-Refused-clause-ok
returns-in-Refused-clause-ok g c = refused_via _ _ c.args.operation.now _ _ _ c.requires.fresh c.in-Refused.ensures.begins c.journal-journal.ensures.lane

pub returns-clause-ok : goal.returns-clause-ok
returns-clause-ok g c = at_via _ _ c.args.operation.now _ _ _ _ c.requires.idle c.requires.fresh c.in-Begun.ensures.begins c.finish-outcome.ensures.finish c.journal-journal-2.ensures.lane
