use Rattle.std.proofs.Common.{refl, sym, subst}
use Rattle.cell_session.specs.Dealing.{EndsAs}
use Rattle.cell_session.specs.Ends.{ReadsNoMore}
use Rattle.session_cluster.specs.Cells.{Cell}
use Rattle.cell_session.proofs.Clauses.{unmade_ends}
use Rattle.cell_session.proofs.running.run_lines.Goals as goal

pub returns-in_default-clause-ended : goal.returns-in_default-clause-ended
returns-in_default-clause-ended g c = unmade_ends _ _ _ _ _ _ _ _ c.requires.empty refl

pub serve_lines-status-requires-clause-new : goal.serve_lines-status-requires-clause-new
serve_lines-status-requires-clause-new g c = record { setting = c.requires.setting; plans = _; kept = c.in-Ok.ensures.kept; unkept = c.in-Ok.ensures.none; unread = c.in-Ok.ensures.unread }

pub returns-clause-ended : goal.returns-clause-ended
returns-clause-ended g c =
    subst (λ x. EndsAs c.serve_lines-status.result c.args.setting.now c.args.setting.now.schema (g.C.Carriers.plans c.args.carriers.now) (g.S.Source.left c.args.source.now) (g.S.Source.left c.serve_lines-status.new.source) x (g.K.Sink.written c.args.sink.now) (g.K.Sink.written c.serve_lines-status.new.sink))
    (sym c.leave.ensures) (c.serve_lines-status.ensures.ended (g.C.Carriers.plans c.args.carriers.now) c.in-Ok.ensures.kept)

pub returns-clause-nothing_more : goal.returns-clause-nothing_more
returns-clause-nothing_more g c is =
    subst (λ (x : Cell). ReadsNoMore (g.S.Source.left c.args.source.now) (g.S.Source.left c.serve_lines-status.new.source) (g.S.Source.gave c.serve_lines-status.new.source) x.dealt)
    (sym c.leave.ensures) (c.serve_lines-status.ensures.nothing_more is)
