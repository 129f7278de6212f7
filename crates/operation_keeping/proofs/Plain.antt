-- What may be there, and returns, taken apart.
use Rattle.std.proofs.Common.{◌≡◌, ℕ, Option, Some, None}
use Rattle.lane_journals.specs.Events.{Returned}

pub some-same : {A : Type 0} (x y : A) → ◌≡◌ {A = Option A} (Some x) (Some y) → x ≡ y
some-same x y e = cc

pub none-some : {A : Type 0} (x : A) → ◌≡◌ {A = Option A} None (Some x) → ⊥
none-some x e = cc

pub returned-same : (i j : ℕ) → Returned i ≡ Returned j → i ≡ j
returned-same i j e = cc
