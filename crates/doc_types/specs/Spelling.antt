-- How tokens are spelled, in words that retrace no reader.
use Rattle.std.specs.Prelude.{◌≡◌, ◌≢◌, ◌⊎◌, ℕ, ℤ, pos, neg_ℤ, ◌^◌, ◌<◌, ◌≤◌, true, List, [], ◌∷◌, ◌++◌, if◌then◌else◌}
use Rattle.std.specs.Fmt.{decimal}
use Rattle.doc_types.specs.Tokens.{is_escaped}

-- a byte between these quotes is written as itself where it is neither the quote nor a backslash, and else
-- behind a backslash
abbrev pub SpellsByte : ℕ → ℕ → List ℕ → Type 0
SpellsByte quote c spelled = ((c ≢ quote) × ((c ≢ 92) × (spelled ≡ c ∷ []))) ⊎ ((is_escaped c ≡ true) × (spelled ≡ 92 ∷ c ∷ []))

-- what is written between the quotes for a text
abbrev pub Spells : ℕ → List ℕ → List ℕ → Type 0
Spells quote [] spelled = spelled ≡ []
Spells quote (c ∷ text) spelled = (one : List ℕ) × ((rest : List ℕ) × ((spelled ≡ one ++ rest) × (SpellsByte quote c one × Spells quote text rest)))

-- bytes begin with what is written for a text, and the closing quote
pub record IsSpelled (quote : ℕ) (bytes text rest : List ℕ) : Type 0 where
  pub spelled : List ℕ
  pub whole : bytes ≡ spelled ++ quote ∷ rest
  pub spells : Spells quote text spelled

-- a text with a backslash before each backslash and each quote
abbrev pub escaped : List ℕ → List ℕ
escaped [] = []
escaped (c ∷ cs) = if is_escaped c then 92 ∷ c ∷ escaped cs else c ∷ escaped cs

-- a number of the signed 64-bit range is written in decimal, behind a `-` or not
abbrev pub SaysInteger : List ℕ → ℤ → List ℕ → Type 0
SaysInteger text z rest =
    (n : ℕ) × (((z ≡ pos n) × ((n < 2 ^ 63) × (text ≡ decimal n ++ rest))) ⊎ ((z ≡ neg_ℤ (pos n)) × ((n ≤ 2 ^ 63) × (text ≡ 45 ∷ (decimal n ++ rest)))))
