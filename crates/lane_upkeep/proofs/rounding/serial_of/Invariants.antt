use Rattle.std.proofs.Common.{◌≡◌, drop}
use Rattle.lane_upkeep.specs.RoundNotes.{serial_in}
use Rattle.lane_upkeep.proofs.rounding.serial_of.Given as goal

abbrev pub invariant-loop-piece : goal.invariant-loop-piece
invariant-loop-piece l = serial_in l.row l.pieces ≡ serial_in l.row (drop l.piece-index l.pieces)
