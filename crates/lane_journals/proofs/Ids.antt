-- The test of ids.
use Rattle.std.proofs.Common.{◌≡◌, true, refl}
use Rattle.std.proofs.lemmas.Slice.Eq.{bytes_eq-Decides}
use Rattle.lane_journals.specs.Buckets.{Id, same_id}

pub same_id-true : (a b : Id) → same_id a b ≡ true → a ≡ b
unfolding same_id
same_id-true a b h = (bytes_eq-Decides a b).0 h

pub same_id-eq : (a b : Id) → a ≡ b → same_id a b ≡ true
unfolding same_id
same_id-eq a b e = (bytes_eq-Decides a b).1 e

pub same_id-refl : (a : Id) → same_id a a ≡ true
same_id-refl a = same_id-eq a a refl
