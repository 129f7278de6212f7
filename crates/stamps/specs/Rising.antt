-- Stamps in rising order.
use Rattle.std.specs.Prelude.{List, [], ◌∷◌}
use Rattle.stamps.specs.declared.stamp.Stamp.{Stamp}
use Rattle.stamps.specs.Order.{IsBefore}

-- each stamp is before the next
abbrev pub IsRising : List Stamp → Type 0
IsRising [] = Unit {0}
IsRising (s ∷ []) = Unit {0}
IsRising (s ∷ t ∷ ss) = IsBefore s t × IsRising (t ∷ ss)
