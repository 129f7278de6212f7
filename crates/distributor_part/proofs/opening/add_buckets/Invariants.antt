-- the buckets of the pieces so far are added, and there is room for the others
use Rattle.std.proofs.Common.{◌≡◌, ◌+◌, ◌≤◌, ◌++◌, length, take, drop, vec_len, vec_capacity}
use Rattle.distributor_part.specs.Steps.{buckets_shown}
use Rattle.distributor_part.proofs.opening.add_buckets.Given as goal

abbrev pub invariant-loop-piece : goal.invariant-loop-piece
invariant-loop-piece l =
    (l.buckets.items ≡ l.fn.buckets.items ++ buckets_shown (take l.piece-index l.pieces))
    × (vec_len l.buckets + length (drop l.piece-index l.pieces) ≤ vec_capacity l.buckets)
