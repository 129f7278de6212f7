-- Lists in which a place is set: parts at their places.
use Rattle.std.proofs.Common.{◌≡◌, ℕ, ◌<◌, List, None, length, slice_set}
use Rattle.bucket_ids.specs.Buckets.{Low}
use Rattle.distributor_part.specs.declared.rules.Rules.{Rules}
use Rattle.distributor_part.specs.Parts.{Part, new_part}
use Rattle.lane_keeping.specs.LaneKeeping.{part_in}
use Rattle.lane_keeping.specs.Asking.{OthersStay}
use Rattle.proof_basics.proofs.Lists.{set-own, set-other}

module _ (lane : Low) (rules : Rules) where
  -- ---- one part is another

  pub part-own : (parts : List Part) (d : ℕ) (q : Part) → d < length parts → part_in lane rules (slice_set parts d q) d ≡ q
  part-own parts d q h = set-own parts d q (new_part d lane rules None) h

  pub part-others : (parts : List Part) (d : ℕ) (q : Part) → OthersStay lane rules parts (slice_set parts d q) d
  part-others parts d q e off = set-other parts d e q (new_part e lane rules None) off
