-- How the late messages lie: the one that falls due last stands first.
use Rattle.std.specs.Prelude.{List, [], ◌∷◌}
use Rattle.messages.specs.Waiting.{Each, IsBefore}
use Rattle.messages.specs.declared.late.Late.{Late}

-- each falls due after all behind it
abbrev pub IsFalling : List Late → Type 0
IsFalling [] = Unit {0}
IsFalling (l ∷ late) = Each (λ m. IsBefore m l) late × IsFalling late
