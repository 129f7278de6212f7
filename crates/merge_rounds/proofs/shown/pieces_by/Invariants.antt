use Rattle.std.proofs.Common.{◌≡◌, drop}
use Rattle.merge_rounds.specs.Rounds.{pieces_by}
use Rattle.merge_rounds.proofs.shown.pieces_by.Given as goal

abbrev pub invariant-loop-seen : goal.invariant-loop-seen
invariant-loop-seen l = pieces_by l.node l.shown ≡ pieces_by l.node (drop l.seen-index l.shown)
