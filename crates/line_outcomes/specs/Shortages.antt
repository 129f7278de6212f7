-- Too few nodes answered: how many count, how many are needed, and who is named as absent.
use Rattle.std.specs.Prelude.{◌≡◌, ◌⊎◌, ◌<◌, ◌≤◌, ℕ, Option, Some}
use Rattle.lane_journals.specs.Endings.{Exactly}
use Rattle.messages.specs.declared.outcome.Outcome.{Outcome}
use Rattle.messages.specs.declared.outcome.Outcome.TheVariants.{TooFew, NoMemory}

-- of those that are missing the active node, or else the lowest
pub record IsAbsent (missing : ℕ → Type 0) (active : Option ℕ) (n : ℕ) : Type 0 where
  pub is_missing : missing n
  pub first : (active ≡ Some n) ⊎ (((m : ℕ) → active ≡ Some m → missing m → ⊥) × ((m : ℕ) → missing m → n ≤ m))

-- so many count, and this one is absent
pub record IsShortOf (counted missing : ℕ → Type 0) (active : Option ℕ) (many absent : ℕ) : Type 0 where
  pub exactly : Exactly many counted
  pub is_absent : IsAbsent missing active absent

-- one of those asked wanted memory, and is told of in place of the count
abbrev pub IsTooFewOf : Type 0 → (ℕ → Type 0) → ℕ → (ℕ → Type 0) → Option ℕ → Outcome → Type 0
IsTooFewOf wanted_memory counted needed missing active x =
    (wanted_memory × (x ≡ NoMemory))
    ⊎ ((wanted_memory → ⊥) × ((many absent : ℕ) × IsShortOf counted missing active many absent × (x ≡ TooFew many needed absent)))

-- fewer than so many
abbrev pub AreFewer : ℕ → (ℕ → Type 0) → Type 0
AreFewer needed counted = (many : ℕ) × Exactly many counted × (many < needed)
