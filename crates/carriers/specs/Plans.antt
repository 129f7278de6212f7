-- How a carrier keeps each planned fate with the number of the message that gets it.
use Rattle.std.specs.Prelude.{◌≡◌, ◌==◌, ℕ, zero, suc, ◌+◌, ◌≤◌, List, [], ◌∷◌, ◌++◌, map, if◌then◌else◌}
use Rattle.carriers.specs.declared.fate.Fate.{Fate}
use Rattle.carriers.specs.declared.fate.Fate.TheVariants.{Deliver}
use Rattle.carriers.specs.declared.planned.Planned.{Planned}

abbrev pub fates_of : List Planned → List Fate
fates_of = map (λ p. p.fate)

-- the fate of the message of a number
abbrev pub fate_at : List Planned → ℕ → Fate
fate_at [] number = Deliver
fate_at (p ∷ plans) number = if p.number == number then p.fate else fate_at plans number

-- the fates of the messages up to a number
abbrev pub given_of : List Planned → ℕ → List Fate
given_of plans zero = []
given_of plans (suc number) = given_of plans number ++ fate_at plans (suc number) ∷ []

-- fates for the messages behind that of a number
abbrev pub numbered : ℕ → List Fate → List Planned
numbered number [] = []
numbered number (fate ∷ fates) = record { number = number + 1; fate = fate } ∷ numbered (number + 1) fates

-- the first fates were planned for messages up to a number, the others for those behind it
abbrev pub AreNumbered : ℕ → ℕ → List Planned → Type 0
AreNumbered given zero [] = Unit {0}
AreNumbered given zero (p ∷ plans) = (p.number ≡ given + 1) × AreNumbered (given + 1) zero plans
AreNumbered given (suc spent) [] = ⊥
AreNumbered given (suc spent) (p ∷ plans) = (p.number ≤ given) × AreNumbered given spent plans

pub record IsNumbered (given spent faults : ℕ) (plans : List Planned) : Type 0 where
  pub numbered : AreNumbered given spent plans
  pub few : faults ≤ given
