-- The text of a stamp.
use Rattle.std.proofs.Common.{◌≡◌, ◌∷◌, ◌++◌, decimal, refl}
use Rattle.stamps.specs.Printed.{printed}
use Rattle.stamps.specs.declared.stamp.Stamp.{Stamp}

pub printed_is : (s : Stamp) → printed s ≡ decimal s.version ++ 58 ∷ decimal s.count
unfolding printed
printed_is s = refl
