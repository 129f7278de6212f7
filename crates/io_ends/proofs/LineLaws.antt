-- Laws of the lines of a text.
use Rattle.std.proofs.Common.{◌≡◌, ◌≢◌, ◌==◌, ℕ, zero, suc, ◌+◌, ◌<◌, ◌≤◌, true, false, cond, List, [], ◌∷◌, ◌++◌, length, refl, ap, arith}
use Rattle.std.proofs.lemmas.Bool.Decides.{nat_tests}
use Rattle.io_ends.specs.Lines.{NoLineFeed, lines_of, onto_first, end_of}

not_feed : (b : ℕ) → b ≢ 10 → (b == 10) ≡ false
not_feed b h = grind (arith, nat_tests)

pub lines_of_first : (line rest : List ℕ) → NoLineFeed line → lines_of (line ++ 10 ∷ rest) ≡ line ∷ lines_of rest
unfolding lines_of
lines_of_first [] rest h = refl
lines_of_first (b ∷ line) rest h = rw (not_feed b h.0) (ap (onto_first b) (lines_of_first line rest h.1))

pub lines_of_none : lines_of [] ≡ []
unfolding lines_of
lines_of_none = refl

lines_of_last_step : (b : ℕ) (line : List ℕ) → NoLineFeed (b ∷ line) → lines_of (b ∷ line) ≡ (b ∷ line) ∷ []
unfolding lines_of
lines_of_last_step b [] h = rw (not_feed b h.0) refl
lines_of_last_step b (d ∷ line) h = rw (not_feed b h.0) (ap (onto_first b) (lines_of_last_step d line h.1))

pub lines_of_last : (line : List ℕ) → NoLineFeed line → 0 < length line → lines_of line ≡ line ∷ []
lines_of_last [] h some = absurd (omega arith)
lines_of_last (b ∷ line) h some = lines_of_last_step b line h

pub end_of_first : (k : ℕ) (line rest : List ℕ) → NoLineFeed line → end_of (suc k) (line ++ 10 ∷ rest) ≡ suc (length line) + end_of k rest
unfolding end_of
end_of_first k [] rest h = omega arith
end_of_first k (b ∷ line) rest h = rw (not_feed b h.0) (omega (arith, end_of_first k line rest h.1))

pub end_of_last : (k : ℕ) (line : List ℕ) → NoLineFeed line → end_of (suc k) line ≡ length line
unfolding end_of
end_of_last k [] h = refl
end_of_last k (b ∷ line) h = rw (not_feed b h.0) (ap suc (end_of_last k line h.1))

-- a line whose first bytes have no line feed ends no sooner
pub end_of_past : (front rest : List ℕ) → NoLineFeed front → length front ≤ end_of 1 (front ++ rest)
unfolding end_of
end_of_past [] rest h = omega arith
end_of_past (b ∷ front) rest h = rw (not_feed b h.0) (omega (arith, end_of_past front rest h.1))

pub end_of_zero : (text : List ℕ) → end_of 0 text ≡ 0
unfolding end_of
end_of_zero text = refl

pub end_of_none : (k : ℕ) → end_of k [] ≡ 0
unfolding end_of
end_of_none zero = refl
end_of_none (suc k) = refl

onto_first_some : (b : ℕ) (lines : List (List ℕ)) → 0 < length (onto_first b lines)
onto_first_some b [] = omega arith
onto_first_some b (line ∷ lines) = omega arith

-- a byte is of some line
pub lines_of_some : (bytes : List ℕ) → 0 < length bytes → 0 < length (lines_of bytes)
unfolding lines_of
lines_of_some [] h = absurd (omega arith)
lines_of_some (b ∷ bytes) h = elim (b == 10) as (λ t. 0 < length (cond t ([] ∷ lines_of bytes) (onto_first b (lines_of bytes)))) [
  | true ↦ omega arith
  | false ↦ onto_first_some b (lines_of bytes)
]

pub end_of_one : (bytes : List ℕ) → end_of 1 bytes ≤ length bytes
unfolding end_of
end_of_one [] = omega arith
end_of_one (b ∷ bytes) = elim (b == 10) as (λ t. suc (cond t (end_of 0 bytes) (end_of 1 bytes)) ≤ suc (length bytes)) [
  | true ↦ omega (arith, end_of_zero bytes)
  | false ↦ omega (arith, end_of_one bytes)
]
