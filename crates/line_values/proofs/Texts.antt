-- The sign of a number's text.
use Rattle.std.proofs.Common.{◌≡◌, ℕ, List, [], ◌∷◌, length, true, false, refl, arith, ne_eqb}
use Rattle.fast_float.specs.Text.{scan}
use Rattle.serde_json.specs.Read.{number_of, number_from}

pub behind_minus : (digits : List ℕ) → number_of (45 ∷ digits) ≡ number_from true (scan digits)
unfolding number_of
behind_minus digits = refl

pub without_minus : (first : ℕ) (behind : List ℕ) → (first ≡ 45 → ⊥) → number_of (first ∷ behind) ≡ number_from false (scan (first ∷ behind))
unfolding number_of
without_minus first behind other = rw (ne_eqb first 45 other)

pub of_nothing : (text : List ℕ) → length text ≡ 0 → number_of text ≡ number_from false (scan text)
unfolding number_of
of_nothing [] none = refl
of_nothing (first ∷ behind) none = absurd (omega arith)
