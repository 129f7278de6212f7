-- Plain decimals.
use Rattle.std.proofs.Common.{◌≡◌, ◌≢◌, ◌⊎◌, ◌∙◌, ℕ, zero, suc, ◌^◌, ◌<◌, length, get_or, Result, Ok, Err, inl, inr, sym, ap, arith}
use Rattle.std.specs.Option.{MatchOption}
use Rattle.std.specs.Result.{result_ok}
use Rattle.std.specs.Fmt.{decimal}
use Rattle.std.specs.Str.Parse.{AllDigits, ParsesUnsigned, digits_value}
use Rattle.std.proofs.lemmas.Str.Parse.{IsNumeralModel, numerals_by_value, tells_digits, parse_plain, not_in_digits}
use Rattle.std.proofs.lemmas.Fmt.{parse-decimal, first_decimal, decimal_digit, decimal_nonempty, decimal-digits_value, decimal_injective, digits_decimal}
use Rattle.clap.specs.Walk.{Text}
use Rattle.words_line.specs.Said.{IsNumber}

own : IsNumeralModel (AllDigits 10) (digits_value 10)
own = numerals_by_value _ tells_digits

-- no decimal begins with a plus sign, and only that of 0 with a zero
pub no_plus : (n : ℕ) → n < 2 ^ 64 → get_or (decimal n) 0 0 ≢ 43
no_plus n lt = not_in_digits own (decimal n) 43 (digits_decimal own n lt) (λ r. absurd (omega (arith, r.0))) 0 (decimal_nonempty n lt)

no_zero : (n : ℕ) → n < 2 ^ 64 → get_or (decimal n) 0 0 ≡ 48 → length (decimal n) ≢ 1 → ⊥
no_zero zero lt e other = other (ap length (decimal_digit 0 (omega arith)))
no_zero (suc n) lt e other = let more = first_decimal (suc n) (omega arith) lt in omega (arith, more, e)

pub not_plain : (text : Text) → (get_or text 0 0 ≡ 43) ⊎ ((get_or text 0 0 ≡ 48) × (length text ≢ 1)) → (n : ℕ) → n < 2 ^ 32 → text ≢ decimal n
not_plain text odd n lt e = elim odd [
  | inl plus ↦ no_plus n (omega arith) (ap (λ t. get_or t 0 0) (sym e) ∙ plus)
  | inr lead ↦ no_zero n (omega arith) (ap (λ t. get_or t 0 0) (sym e) ∙ lead.0) (λ one. lead.1 (ap length e ∙ one))
]

-- what `parse` makes of a text with a plain front
pub read_plain : (E : Type 0) (text : Text) (r : Result ℕ E) → ParsesUnsigned 32 10 text r → get_or text 0 0 ≢ 43 → (get_or text 0 0 ≡ 48 → length text ≡ 1)
    → MatchOption (result_ok r) ((n : ℕ) → n < 2 ^ 32 → text ≢ decimal n) (λ n. (text ≡ decimal n) × (n < 2 ^ 32))
read_plain E text (Ok n) h plus lead =
    let p : ((AllDigits 10 text) × (0 < length text) × (digits_value 10 text < 2 ^ 32)) × (n ≡ digits_value 10 text) = parse_plain own {E = E} 32 text (Ok n) h plus in
    let small : digits_value 10 text < 2 ^ 64 = omega (arith, p.0.2) in
    (sym (decimal-digits_value own text p.0.0 p.0.1 lead small) ∙ ap decimal (sym p.1), omega (arith, p.0.2, p.1))
read_plain E text (Err x) h plus lead = λ n lt e.
    let bad = parse-decimal 32 n text (Err x) lt (omega arith) e h in cc

-- a text says one number at most
pub number_once : (least most from to : ℕ) (text : Text) (m n : ℕ) → most < 2 ^ 64 → to < 2 ^ 64 → IsNumber least most text m → IsNumber from to text n → m ≡ n
number_once least most from to text m n top high a b = decimal_injective m n (omega (arith, a.high)) (omega (arith, b.high)) (sym a.plain ∙ b.plain)

-- a number outside the range is none in it
pub outside : (least most : ℕ) (text : Text) (m : ℕ) → m < 2 ^ 32 → most < 2 ^ 32 → text ≡ decimal m → (m < least) ⊎ (most < m) → (n : ℕ) → IsNumber least most text n → ⊥
outside least most text m lt top e out n a =
    let same : m ≡ n = decimal_injective m n (omega arith) (omega (arith, a.high)) (sym e ∙ a.plain) in
    elim out [ inl low ↦ omega (arith, a.low, same, low) | inr high ↦ omega (arith, a.high, same, high) ]

-- a range's end under another name
pub other_end : {least a b : ℕ} {text : Text} {n : ℕ} → a ≡ b → IsNumber least a text n → IsNumber least b text n
other_end e h = record { plain = h.plain; low = h.low; high = omega (arith, e, h.high) }
