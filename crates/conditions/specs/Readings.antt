-- Texts as tokens, and where a text is refused.
use Rattle.std.specs.Prelude.{◌≡◌, ◌≢◌, ℕ, ◌+◌, ◌-◌, min, List, [], ◌∷◌, ◌++◌, length, Some, None, Result, Ok, Err}
use Rattle.doc_types.specs.declared.symbols.Language.{Language}
use Rattle.doc_types.specs.Tokens.{Token, skip_blanks, token_at}
use Rattle.conditions.specs.declared.reader.Stop.{Stop}
use Rattle.conditions.specs.declared.reader.Stop.TheVariants as stop
use Rattle.conditions.specs.declared.token_reading.ReadFault.{ReadFault}
use Rattle.conditions.specs.declared.token_reading.ReadFault.TheVariants as fault

-- a text is read as these tokens, with blanks before each, and then this rest
abbrev pub IsReadAs : Language → List ℕ → List Token → List ℕ → Type 0
IsReadAs language text [] rest = text ≡ rest
IsReadAs language text (t ∷ ts) rest = (behind : List ℕ) × ((token_at language (skip_blanks text) ≡ Some (t, behind)) × IsReadAs language behind ts rest)

-- some list of tokens of the language begins so
abbrev pub Begins : {V : Type 0} → (List Token → V → Type 0) → List Token → Type 0
Begins {V} L tokens = (more : List Token) × ((value : V) × L (tokens ++ more) value)

-- a text whose tokens say a value
pub record IsText {V : Type 0} (language : Language) (L : List Token → V → Type 0) (text : List ℕ) (value : V) : Type 0 where
  pub tokens : List Token
  pub rest : List ℕ
  pub read : IsReadAs language text tokens rest
  pub ends : skip_blanks rest ≡ []
  pub says : L tokens value

-- why reading stops: the text ends too early, no token can be read, or no list of tokens begins with one more
pub data CannotGoOn {V : Type 0} (language : Language) (L : List Token → V → Type 0) (tokens : List Token) (rest : List ℕ) : Type 0 where
  ends_early : rest ≡ [] → ((value : V) → L tokens value → ⊥) → CannotGoOn language L tokens rest
  unreadable : rest ≢ [] → token_at language rest ≡ None → CannotGoOn language L tokens rest
  no_such : (t : Token) (behind : List ℕ) → token_at language rest ≡ Some (t, behind) → (Begins L (tokens ++ t ∷ []) → ⊥) → CannotGoOn language L tokens rest

-- the tokens up to a place begin one of the language, and there it cannot go on; a place counts up to the
-- greatest number of 32 bits
pub record IsRefusedAt {V : Type 0} (language : Language) (L : List Token → V → Type 0) (text : List ℕ) (offset : ℕ) : Type 0 where
  pub tokens : List Token
  pub rest : List ℕ
  pub read : IsReadAs language text tokens rest
  pub begins : tokens ≢ [] → Begins L tokens
  pub place : offset ≡ min (length text - length (skip_blanks rest)) 4294967295
  pub cause : CannotGoOn language L tokens (skip_blanks rest)

-- a refusal by a reader says this
abbrev pub IfRefused : {X : Type 0} → Result X Stop → Type 0 → Type 0
IfRefused (Ok x) P = Unit {0}
IfRefused (Err stop.Refused) P = P
IfRefused (Err stop.NoMemory) P = Unit {0}

-- what the reading of a text answers
abbrev pub Answers : {V : Type 0} → Language → (List Token → V → Type 0) → List ℕ → Result V ReadFault → Type 0
Answers language L text (Ok value) = IsText language L text value
Answers language L text (Err (fault.Refused offset)) = IsRefusedAt language L text offset
Answers language L text (Err fault.NoMemory) = Unit {0}
