use Rattle.std.proofs.Common.{arith}
use Rattle.lane_locks.specs.declared.lanes.FedLane.{FedLane}
use Rattle.lane_locks.proofs.Numbered.{stands-not}
use Rattle.lane_locks.proofs.locks.find.Goals as goal

pub unreachable-requires : goal.unreachable-requires
unreachable-requires g c = stands-not (λ (f : FedLane _ _ _ _). f.number) c.args.taken.now c.args.number (λ k d less. c.loop-place.invariant k d (omega (arith, less))) c.requires
