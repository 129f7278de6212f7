-- What is written of a number of 128 bits: a number of JSON, and no other's.
use Rattle.std.proofs.Common.{◌≡◌, ℕ, ℤ, pos, negsuc, zero, suc, ◌+◌, ◌%◌, ◌^◌, ◌<◌, ◌≤◌, cond, ◌==◌, false, List, [], ◌∷◌, ◌++◌, length, drop, get_or, Some, option_and_then, decimal, refl, sym, ap, ◌∙◌, arith}
use Rattle.std.proofs.lemmas.Bool.{ne_eqb, le-leb, and_from}
use Rattle.std.proofs.lemmas.List.{drop_all}
use Rattle.std.proofs.lemmas.Fmt.{decimal_is_IsNumeral_wide, decimal_by_steps_wide, decimal_digit}
use Rattle.std.proofs.lemmas.Str.Parse.{digit_at}
use Rattle.std.specs.Fmt.{signed_decimal}
use Rattle.std.specs.List.{prefix_len}
use Rattle.std.specs.Char.{is_ascii_digit}
use Rattle.std.specs.Str.Parse.{digits_value}
use lib.Signed.{mag}
use Rattle.json.specs.Word.{head, after_whole, after_fraction, after_exponent, after_number}
use Rattle.json.specs.Print.{IsNumber}

all_digits : (ds : List ℕ) → ((i : ℕ) → i < length ds → (48 ≤ get_or ds i 0) × (get_or ds i 0 ≤ 57)) → prefix_len is_ascii_digit ds ≡ length ds
all_digits [] h = refl
all_digits (d ∷ ds) h =
    let first = h 0 (omega arith) in
    let rest = all_digits ds (λ i l. h (suc i) (omega arith)) in
    ap (λ b. cond b (1 + prefix_len is_ascii_digit ds) 0) (and_from _ _ (le-leb 48 d first.0) (le-leb d 57 first.1)) ∙ omega arith

whole_digits : (ds : List ℕ) → 48 < get_or ds 0 0 → prefix_len is_ascii_digit ds ≡ length ds → (after_whole ds ≡ Some []) × ((head ds == 45) ≡ false)
whole_digits [] first all = absurd (omega arith)
whole_digits (d ∷ ds) first all = (
  rw (ne_eqb d 48 (λ e. omega arith), all, ne_eqb (suc (length ds)) 0 (λ e. omega arith)) (ap Some (drop_all (length ds) ds (omega arith))),
  ne_eqb d 45 (λ e. omega arith),
)

-- the first digit of a number above 0 isn't 0
abbrev FirstDigit : ℕ → List ℕ → Type 0
FirstDigit n ds = 0 < n → 48 < get_or ds 0 0

first_stays : (ds es : List ℕ) → 48 < get_or ds 0 0 → 48 < get_or (ds ++ es) 0 0
first_stays [] es h = absurd (omega (arith, h))
first_stays (d ∷ ds) es h = h

first_digit : (n : ℕ) → n < 10 ^ 64 → FirstDigit n (decimal n)
first_digit n h = decimal_by_steps_wide FirstDigit (λ n small above. omega (arith, above)) (λ n ds large more above. first_stays ds ((48 + n % 10) ∷ []) (more (omega (arith, large)))) n h

whole_decimal : (n : ℕ) → n < 10 ^ 64 → (after_whole (decimal n) ≡ Some []) × ((head (decimal n) == 45) ≡ false)
whole_decimal zero h = let e = decimal_digit 0 (omega arith) in (ap after_whole e, ap (λ l. head l == 45) e)
whole_decimal (suc n) h =
    whole_digits (decimal (suc n)) (first_digit (suc n) h (omega arith)) (all_digits _ (λ i l. digit_at _ i (decimal_is_IsNumeral_wide (suc n) h).0.1 l))

unsigned_number : (n : ℕ) → n < 10 ^ 64 → IsNumber (decimal n)
unfolding after_number
unsigned_number n h =
    let w = whole_decimal n h in
    ap (λ o. option_and_then after_exponent (option_and_then after_fraction o))
    (ap (λ b. after_whole (cond b (drop 1 (decimal n)) (decimal n))) w.1 ∙ w.0)

negative_number : (n : ℕ) → n < 10 ^ 64 → IsNumber (45 ∷ decimal n)
unfolding after_number
negative_number n h = ap (λ o. option_and_then after_exponent (option_and_then after_fraction o)) (whole_decimal n h).0

pub number_text : (z : ℤ) → mag z < 2 ^ 127 → IsNumber (signed_decimal z)
number_text (pos n) h = unsigned_number n (omega arith)
number_text (negsuc n) h = negative_number (suc n) (omega arith)

-- ---- two numbers print apart

same_decimal : (m n : ℕ) → m < 10 ^ 64 → n < 10 ^ 64 → decimal m ≡ decimal n → m ≡ n
same_decimal m n h k e = sym (decimal_is_IsNumeral_wide m h).1 ∙ ap (digits_value 10) e ∙ (decimal_is_IsNumeral_wide n k).1

-- digits don't begin with a sign
no_sign : (n : ℕ) (ds : List ℕ) → n < 10 ^ 64 → decimal n ≡ 45 ∷ ds → ⊥
no_sign zero ds h e = let is : 48 ≡ 45 = ap (λ l. get_or l 0 0) (sym (decimal_digit 0 (omega arith)) ∙ e) in absurd (omega (arith, is))
no_sign (suc n) ds h e =
    let is : get_or (decimal (suc n)) 0 0 ≡ 45 = ap (λ l. get_or l 0 0) e in
    let above : 48 < get_or (decimal (suc n)) 0 0 = first_digit (suc n) h (omega arith) in
    absurd (omega (arith, is, above))

pub same_number : (y z : ℤ) → mag y < 2 ^ 127 → mag z < 2 ^ 127 → signed_decimal y ≡ signed_decimal z → y ≡ z
same_number (pos m) (pos n) h k e = ap pos (same_decimal m n (omega arith) (omega arith) e)
same_number (pos m) (negsuc n) h k e = absurd (no_sign m (decimal (suc n)) (omega arith) e)
same_number (negsuc m) (pos n) h k e = absurd (no_sign n (decimal (suc m)) (omega arith) (sym e))
same_number (negsuc m) (negsuc n) h k e =
    let tails : decimal (suc m) ≡ decimal (suc n) = cc in
    let is : suc m ≡ suc n = same_decimal (suc m) (suc n) (omega arith) (omega arith) tails in
    ap negsuc (omega (arith, is))
