-- Where a text is refused: behind its longest prefix that can still become a text.
use Rattle.std.specs.Prelude.{ℕ, ◌+◌, ◌<◌, ◌≤◌, List, ◌++◌, length, take}

-- some text of the language begins so
abbrev pub Begins : {Letter Value : Type 0} → (List Letter → Value → Type 0) → List Letter → Type 0
Begins {Letter} {Value} L letters = (more : List Letter) × ((value : Value) × L (letters ++ more) value)

-- the letters are no text; the first ones up to the offset begin one, and with the next letter they begin none
pub record IsRefusedAt {Letter Value : Type 0} (L : List Letter → Value → Type 0) (letters : List Letter) (offset : ℕ) : Type 0 where
  pub within : offset ≤ length letters
  pub begins : Begins L (take offset letters)
  pub stops : offset < length letters → Begins L (take (offset + 1) letters) → ⊥
  pub no_text : (value : Value) → L letters value → ⊥
