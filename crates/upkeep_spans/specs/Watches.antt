-- What a carrier that watches shows of the one that it has, and which messages it remembers.
use Rattle.std.specs.Prelude.{◌≡◌, ◌≤◌, ◌+◌, ◌↔◌, ℕ, Bool, true, false, List, [], Option, Some, None, length, Contains, refl}
use Rattle.std.specs.List.Sorted.{IsNonDecreasing}
use Rattle.carriers.specs.declared.fate.Fate.{Fate}
use Rattle.carriers.specs.declared.fate.Fate.TheVariants.{Late}
use Rattle.lane_carriage.specs.Readers.{fate_of}

-- the fates given, those planned where it takes plans, and how many of the given ones were faults
pub record Watched : Type 0 where
  pub given : List Fate
  pub plans : Option (List Fate)
  pub faults : ℕ

abbrev pub takes_plans : Option (List Fate) → Bool
takes_plans None = false
takes_plans (Some planned) = true

abbrev pub planned_in : Option (List Fate) → List Fate
planned_in None = []
planned_in (Some planned) = planned

-- what is planned, where plans are taken
abbrev pub plans_of : Bool → List Fate → Option (List Fate)
plans_of false planned = None
plans_of true planned = Some planned

-- no plans are planned where none are taken
pub unplanned : (plans : Option (List Fate)) → takes_plans plans ≡ false → planned_in plans ≡ []
unplanned None h = refl
unplanned (Some planned) h = Prim.cc

-- the first message of which it is known, where it is unknown of all up to one
abbrev pub known_from : Option ℕ → ℕ
known_from None = 0
known_from (Some last) = last + 1

-- of the messages from one on, just those are remembered that are late and come right behind their own sending
pub record KnowsAtOnce (first : ℕ) (at_once : List ℕ) (given : List Fate) : Type 0 where
  pub rising : IsNonDecreasing at_once
  pub sent : (n : ℕ) → Contains at_once n → n ≤ length given
  pub just : (n : ℕ) → first ≤ n → Contains at_once n ↔ (fate_of n given ≡ Some (Late 0))
