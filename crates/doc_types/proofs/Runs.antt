-- Where texts may be cut, and what digits say.
use Rattle.std.proofs.Common.{◌≡◌, ℕ, zero, suc, ◌+◌, ◌-◌, ◌*◌, ◌<◌, ◌≤◌, ◌&&◌, ◌||◌, ◌==◌, Bool, true, false, List, [], ◌∷◌, length, get_or, take, refl, sym, ap, subst, ◌∙◌, arith, IsUtf8, IsCharBoundary, if◌then◌else◌}
use Rattle.std.specs.List.{prefix_len, list_all}
use Rattle.std.proofs.lemmas.Bool.{and_parts}
use Rattle.std.proofs.lemmas.Bool.Decides.{nat_tests}
use Rattle.std.proofs.lemmas.Str.{IsCharBoundary-after_ascii, digit_value_digit}
use Rattle.std.proofs.lemmas.Int.Digits.{digits_value_more}
use Rattle.std.proofs.lemmas.List.Sums.{prefix_len_passes}
use Rattle.std.specs.Char.{is_ascii_digit, is_ascii_alphabetic}
use Rattle.std.specs.Str.Parse.{digits_value}
use Rattle.doc_types.specs.Tokens.{is_blank, is_name, is_numeral}
use mathlib.Core.Bool.{true≢false}

pub ascii_cut : (bs : List ℕ) (n : ℕ) → IsUtf8 bs → n ≤ length bs → 1 ≤ n → get_or bs (n - 1) 0 < 128 → IsCharBoundary bs n
ascii_cut bs n utf8 within some ascii =
    let on : n - 1 + 1 ≡ n = omega arith in
    subst (IsCharBoundary bs) on (IsCharBoundary-after_ascii bs (n - 1) utf8 (omega arith) ascii)

-- bytes that pass are ASCII
abbrev pub IsAsciiTest : (ℕ → Bool) → Type 0
IsAsciiTest p = (c : ℕ) → p c ≡ true → c < 128

pub blank_ascii : IsAsciiTest is_blank
blank_ascii c e = grind (arith, nat_tests, e)

pub digit_ascii : IsAsciiTest is_ascii_digit
digit_ascii c e = grind (arith, nat_tests, e)

pub name_ascii : IsAsciiTest is_name
name_ascii c e = grind (arith, nat_tests, e)

pub run_ascii : (p : ℕ → Bool) (bs : List ℕ) → IsAsciiTest p → 1 ≤ prefix_len p bs → get_or bs (prefix_len p bs - 1) 0 < 128
run_ascii p bs ascii some = ascii _ (prefix_len_passes p bs (prefix_len p bs - 1) 0 (omega arith))

pub digit_at : (ds : List ℕ) (i d : ℕ) → list_all is_ascii_digit ds ≡ true → i < length ds → (48 ≤ get_or ds i d) × (get_or ds i d < 58)
digit_at [] i d h lt = absurd (omega arith)
digit_at (c ∷ ds) zero d h lt = let p = and_parts (is_ascii_digit c) (list_all is_ascii_digit ds) h in (grind (arith, nat_tests, p.0), grind (arith, nat_tests, p.0))
digit_at (c ∷ ds) (suc i) d h lt = digit_at ds i d (and_parts (is_ascii_digit c) (list_all is_ascii_digit ds) h).1 (omega arith)

-- a digit more
pub digits_more : (ds : List ℕ) (i : ℕ) → list_all is_ascii_digit ds ≡ true → i < length ds → digits_value 10 (take (i + 1) ds) ≡ 10 * digits_value 10 (take i ds) + (get_or ds i 0 - 48)
digits_more ds i all lt =
    let d = digit_at ds i 0 all lt in
    omega (arith, digits_value_more 10 ds i lt, digit_value_digit (get_or ds i 0) (d.0, omega (arith, d.1)))

pub run_digits : (bs : List ℕ) → list_all is_ascii_digit (take (prefix_len is_ascii_digit bs) bs) ≡ true
run_digits [] = refl
run_digits (c ∷ bs) = by (is_ascii_digit c) refl (run_digits bs)
  where
    by : (b : Bool) → is_ascii_digit c ≡ b → list_all is_ascii_digit (take (prefix_len is_ascii_digit bs) bs) ≡ true → list_all is_ascii_digit (take (if b then 1 + prefix_len is_ascii_digit bs else 0) (c ∷ bs)) ≡ true
    by true e rest = let on : 1 + prefix_len is_ascii_digit bs ≡ suc (prefix_len is_ascii_digit bs) = omega arith in ap (λ n. list_all is_ascii_digit (take n (c ∷ bs))) on ∙ ap (λ b. b && list_all is_ascii_digit (take (prefix_len is_ascii_digit bs) bs)) e ∙ rest
    by false e rest = refl

pub letter_is_name : (c : ℕ) → is_ascii_alphabetic c ≡ true → is_name c ≡ true
letter_is_name c e = ap (λ b. b || is_ascii_digit c || c == 95) e

pub some_run : (p : ℕ → Bool) (bs : List ℕ) → 0 < length bs → p (get_or bs 0 0) ≡ true → 1 ≤ prefix_len p bs
some_run p [] some e = absurd (omega arith)
some_run p (c ∷ bs) some e = subst (λ b. 1 ≤ (if b then 1 + prefix_len p bs else 0)) (sym e) (omega arith)

pub some_name : (bs : List ℕ) → 0 < length bs → is_ascii_alphabetic (get_or bs 0 0) ≡ true → 1 ≤ prefix_len is_name bs
some_name bs some e = some_run is_name bs some (letter_is_name (get_or bs 0 0) e)

-- a numeral has a digit
pub some_digit : (bs : List ℕ) → is_numeral (take (prefix_len is_ascii_digit bs) bs) ≡ true → 1 ≤ prefix_len is_ascii_digit bs
some_digit [] e = absurd (true≢false (sym e))
some_digit (c ∷ bs) e = by (is_ascii_digit c) refl
  where
    by : (b : Bool) → is_ascii_digit c ≡ b → 1 ≤ prefix_len is_ascii_digit (c ∷ bs)
    by true d = some_run is_ascii_digit (c ∷ bs) (omega arith) d
    by false d = absurd (true≢false (sym e ∙ ap (λ b. is_numeral (take (if b then 1 + prefix_len is_ascii_digit bs else 0) (c ∷ bs))) d))
