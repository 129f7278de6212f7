-- the buckets of the answers so far
use Rattle.std.proofs.Common.{◌≡◌, take}
use Rattle.distributor_part.specs.Steps.{all_shown}
use Rattle.distributor_part.proofs.opening.all_buckets.Given as goal

abbrev pub invariant-loop-pieces : goal.invariant-loop-pieces
invariant-loop-pieces l = l.buckets.items ≡ all_shown (take l.pieces-index l.shown)
