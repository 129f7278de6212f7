-- What ties a fault to the outside.
use Rattle.std.specs.Prelude.{◌≡◌, ◌≢◌, ◌⊎◌, ℕ, ◌<◌, List, [], ◌++◌, length, IfOk, Option, Some, Result, Ok, Err}
use Rattle.std.specs.Io.KnownBytes.{Appends}

-- a count of faults rose; where it has a last value it may stand there
abbrev pub HasRisen : Option ℕ → ℕ → ℕ → Type 0
HasRisen last old new = (old < new) ⊎ ((last ≡ Some old) × (new ≡ old))

-- at least one byte of a non-empty piece is taken
abbrev pub TakesSome : {E : Type 0} → List ℕ → Result ℕ E → Type 0
TakesSome piece r = IfOk r (λ n. 0 < length piece → 0 < n)

-- how many bytes a call gave; a failed one none
abbrev pub given_by : {E : Type 0} → Result ℕ E → ℕ
given_by (Ok count) = count
given_by (Err e) = 0

-- known bytes grew by a front of these bytes, but not by all of them
abbrev pub AppendsFront : Option (List ℕ) → Option (List ℕ) → List ℕ → Type 0
AppendsFront old new bytes =
    (front : List ℕ) × ((rest : List ℕ) × ((bytes ≡ front ++ rest) × ((rest ≢ []) × Appends old new front)))
