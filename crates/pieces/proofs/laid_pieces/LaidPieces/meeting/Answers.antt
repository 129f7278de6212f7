use Rattle.pieces.proofs.PlaceLaws.{meeting-run}
use Rattle.pieces.proofs.laid_pieces.LaidPieces.meeting.Goals as goal

pub returns : goal.returns
returns c =
    let run = rw c.deref.ensures.value at c.run_of-from.ensures.run in
    rw (← c.self.view_is) (rw (← meeting-run c.args.bucket c.self.inside.pieces.items _ _ run) (rw c.deref-2.ensures.value at c.copy_all.ensures))
