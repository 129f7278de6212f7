use Rattle.std.proofs.Common.{sym}
use Rattle.cluster_states.proofs.MarkMoves.{mark_moves, mark_stops}
use Rattle.cluster_states.proofs.signs.at_mark.Goals as goal

pub at-requires : goal.at-requires
at-requires c = rw c.with_mark-state.ensures ((mark_moves c.args.state c.args.role c.args.number c.args.at c.args.letter _ c.requires.over (sym c.in-Some.ensures) c.requires.place).0)

pub returns-in-Some : goal.returns-in-Some
returns-in-Some c =
    rw (c.at.ensures, c.with_mark-state.ensures) (mark_moves c.args.state c.args.role c.args.number c.args.at c.args.letter _ c.requires.over (sym c.in-Some.ensures) c.requires.place)

pub returns-in-None : goal.returns-in-None
returns-in-None c = mark_stops _ _ _ _ _ c.requires.over (sym c.in-None.ensures)
