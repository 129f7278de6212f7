use Rattle.std.proofs.Common.{◌≡◌, ◌*◌, ◌%◌, ◌^◌, ◌-◌, arith}
use Rattle.std.proofs.lemmas.Nat.{one_shl}
use Rattle.bucket_ids.proofs.KeySets.{sibling_parts}
use Rattle.bucket_ids.proofs.bucket.Bucket.sibling.Goals as goal

pub returns-clause-parts : goal.returns-clause-parts
returns-clause-parts c =
    let m = c.self.inside.bits - 1 in
    let half : (1 * 2 ^ m) % 2 ^ 64 ≡ 2 ^ m = one_shl m 64 (omega (arith, c.self.invariant.most)) in
    rw (← c.self.view_is, c.other_half.ensures, half) (sibling_parts _ c.self.invariant (rw (← c.self.view_is) at c.requires))
