-- Fronts of texts.
use Rattle.std.specs.Prelude.{◌≡◌, ℕ, ◌≤◌, Bool, false, ⊤, List, [], ◌∷◌, ◌++◌, length}

-- the rest of a text behind some bytes
pub record IsFront (text rest : List ℕ) : Type 0 where
  pub front : List ℕ
  pub some : 1 ≤ length front
  pub whole : text ≡ front ++ rest

-- a text is empty, or its first byte fails a test
abbrev pub BeginsNot : (ℕ → Bool) → List ℕ → Type 0
BeginsNot p [] = ⊤
BeginsNot p (c ∷ cs) = p c ≡ false
