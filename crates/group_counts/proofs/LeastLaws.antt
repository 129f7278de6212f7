-- That the least number is no greater than any, and the greatest no less.
use Rattle.std.proofs.Common.{◌≡◌, ℤ, List, [], ◌∷◌, fold, Some, arith}
use Rattle.std.specs.List.{AllByRecursion}
use Rattle.std.specs.Int.Signed.{◌≤ℤ◌}
use Rattle.std.specs.Int.{int_min, int_max}
use Rattle.std.proofs.lemmas.Int.{ints, clamps}
use Rattle.proof_basics.proofs.Options.{some_same}
use Rattle.group_counts.specs.Numbers.{either, least, greatest}

least-below : (a : ℤ) (zs : List ℤ) (m : ℤ) → fold (either int_min) (Some a) zs ≡ Some m → (m ≤ℤ a) × AllByRecursion (λ z. m ≤ℤ z) zs
least-below a [] m e = let same : a ≡ m = some_same a m e in (omega (arith, ints, same), tt)
least-below a (z ∷ zs) m e = let ih = least-below (int_min a z) zs m e in let low : m ≤ℤ int_min a z = ih.0 in (omega (arith, ints, clamps, low), (omega (arith, ints, clamps, low), ih.1))

greatest-above : (a : ℤ) (zs : List ℤ) (m : ℤ) → fold (either int_max) (Some a) zs ≡ Some m → (a ≤ℤ m) × AllByRecursion (λ z. z ≤ℤ m) zs
greatest-above a [] m e = let same : a ≡ m = some_same a m e in (omega (arith, ints, same), tt)
greatest-above a (z ∷ zs) m e = let ih = greatest-above (int_max a z) zs m e in let high : int_max a z ≤ℤ m = ih.0 in (omega (arith, ints, clamps, high), (omega (arith, ints, clamps, high), ih.1))

pub least-bound : (zs : List ℤ) (m : ℤ) → least zs ≡ Some m → AllByRecursion (λ z. m ≤ℤ z) zs
least-bound [] m e = tt
least-bound (z ∷ zs) m e = least-below z zs m e

pub greatest-bound : (zs : List ℤ) (m : ℤ) → greatest zs ≡ Some m → AllByRecursion (λ z. z ≤ℤ m) zs
greatest-bound [] m e = tt
greatest-bound (z ∷ zs) m e = greatest-above z zs m e
