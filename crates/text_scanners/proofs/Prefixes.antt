-- Prefixes of texts.
use Rattle.std.proofs.Common.{◌≡◌, ℕ, ◌+◌, ◌<◌, List, [], ◌∷◌, ◌++◌, length, take, drop, get_or, take-append-drop, suc, sym, ap, ◌∙◌, subst, arith}
use Rattle.std.proofs.Math.Seq.{take-suc}
use Rattle.text_scanners.specs.Refusals.{Begins, IsRefusedAt}

-- every prefix of a text begins it
pub text_begins : {Letter Value : Type 0} (L : List Letter → Value → Type 0) (letters : List Letter) (n : ℕ) (value : Value) → L letters value → Begins L (take n letters)
text_begins L letters n value text = (drop n letters, (value, subst (λ l. L l value) (sym (take-append-drop n letters)) text))

plus_one : (n : ℕ) → n + 1 ≡ suc n
plus_one n = omega arith

take_more : {Letter : Type 0} (letters : List Letter) (n : ℕ) (d : Letter) → n < length letters → take (n + 1) letters ≡ take n letters ++ get_or letters n d ∷ []
take_more letters n d h = ap (λ k. take k letters) (plus_one n) ∙ take-suc letters n d h

-- a letter with which no text goes on is where the letters are refused
pub refused_at : {Letter Value : Type 0} (L : List Letter → Value → Type 0) (letters : List Letter) (offset : ℕ) (letter : Letter) → offset < length letters → get_or letters offset letter ≡ letter
    → Begins L (take offset letters) → (Begins L (take offset letters ++ letter ∷ []) → ⊥) → IsRefusedAt L letters offset
refused_at L letters offset letter h is begins stops =
    let whole : take (offset + 1) letters ≡ take offset letters ++ letter ∷ [] = take_more letters offset letter h ∙ ap (λ x. take offset letters ++ x ∷ []) is in
    record {
      within = omega (arith, h);
      begins = begins;
      stops = λ more b. stops (subst (λ l. Begins L l) whole b);
      no_text = λ value text. stops (subst (λ l. Begins L l) whole (text_begins L letters (offset + 1) value text));
    }
