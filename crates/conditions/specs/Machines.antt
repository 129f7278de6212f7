-- Machines that read one token after the other.
use Rattle.std.specs.Prelude.{◌≡◌, List, [], ◌∷◌, ◌++◌, Option, Some, option_and_then}
use Rattle.doc_types.specs.Tokens.{Token}
use Rattle.conditions.specs.Readings.{Begins}

-- the state after some tokens
abbrev pub run : {X : Type 0} → (X → Token → Option X) → X → List Token → Option X
run step x [] = Some x
run step x (t ∷ ts) = option_and_then (λ y. run step y ts) (step x t)

-- a machine reads a language: it comes to the value of each of its lists of tokens and to no other, and
-- each step that it goes begins one
pub record Reads {X V : Type 0} (step : X → Token → Option X) (whole : X → Option V) (start : X) (L : List Token → V → Type 0) : Type 0 where
  pub accepts : (ts : List Token) (v : V) → L ts v → (x : X) × ((run step start ts ≡ Some x) × (whole x ≡ Some v))
  pub only : (ts : List Token) (x : X) (v : V) → run step start ts ≡ Some x → whole x ≡ Some v → L ts v
  pub begins : (ts : List Token) (x y : X) (t : Token) → run step start ts ≡ Some x → step x t ≡ Some y → Begins L (ts ++ t ∷ [])
