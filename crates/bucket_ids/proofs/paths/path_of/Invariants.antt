use Rattle.std.proofs.Common.{◌≡◌, ◌<◌, ◌-◌, ◌*◌, ◌^◌}
use Rattle.std.specs.Int.{reverse_bits_onto}
use Rattle.bucket_ids.proofs.paths.path_of.Given as goal

abbrev pub invariant-loop : goal.invariant-loop
invariant-loop l =
    (reverse_bits_onto (4 * (16 - l.counter)) l.left l.path ≡ reverse_bits_onto 64 l.key 0) × (l.path < 2 ^ (4 * l.counter))
