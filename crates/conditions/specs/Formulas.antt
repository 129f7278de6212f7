-- What a condition says of claims, each true or false.
use Rattle.std.specs.Prelude.{◌&&◌, ◌||◌, Bool, true, false, not}

pub data Formula (A : Type 0) : Type 0 where
  truth : Formula A
  falsity : Formula A
  claim : A → Formula A
  opposite : Formula A → Formula A
  both : Formula A → Formula A → Formula A
  either : Formula A → Formula A → Formula A

-- whether a formula is true, by the truth of each claim
abbrev pub holds : {A : Type 0} → (A → Bool) → Formula A → Bool
holds p truth = true
holds p falsity = false
holds p (claim a) = p a
holds p (opposite x) = not (holds p x)
holds p (both x y) = holds p x && holds p y
holds p (either x y) = holds p x || holds p y
