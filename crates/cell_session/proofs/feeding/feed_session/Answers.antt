use Rattle.std.proofs.Common.{sym, subst}
use Rattle.session_cluster.specs.Cells.{Cell}
use Rattle.cell_session.specs.FedDealing.{EndsFedAs}
use Rattle.cell_session.proofs.FedClauses.{fed_unmade}
use Rattle.cell_session.proofs.feeding.feed_session.Goals as goal

pub returns-in_default-clause-ended : goal.returns-in_default-clause-ended
returns-in_default-clause-ended g c = fed_unmade _ _ _ _ _ _ _ _ c.requires.empty

pub returns-in_default-open_session-clause-ended : goal.returns-in_default-open_session-clause-ended
returns-in_default-open_session-clause-ended g c = fed_unmade _ _ _ _ _ _ _ _ c.requires.empty

pub feed_segments-status-requires-clause-new : goal.feed_segments-status-requires-clause-new
feed_segments-status-requires-clause-new g c κs lives =
    record { setting = c.requires.setting; plans = _; kept = c.in-Ok-open_session.ensures.kept; unkept = c.in-Ok-open_session.ensures.none; unread = c.in-Ok-open_session.ensures.unread }

pub returns-clause-ended : goal.returns-clause-ended
returns-clause-ended g c =
    subst (λ (x : Cell). EndsFedAs c.feed_segments-status.result c.args.setting.now c.args.setting.now.schema c.args.feeders (g.C.Carriers.plans c.args.carriers.now) (g.S.Source.left c.args.source.now) (g.S.Source.left c.feed_segments-status.new.source) x (g.K.Sink.written c.args.sink.now) (g.K.Sink.written c.feed_segments-status.new.sink))
    (sym c.leave.ensures) (c.feed_segments-status.ensures.ended (g.C.Carriers.plans c.args.carriers.now) c.in-Ok-open_session.ensures.kept)
