-- Texts of buckets.
use Rattle.std.proofs.Common.{◌≡◌, ◌≢◌, ◌∙◌, ℕ, zero, suc, ◌+◌, ◌*◌, ◌/◌, ◌%◌, ◌^◌, ◌<◌, ◌≤◌, Bool, true, false, cond, ◌&&◌, nat_lt, nat_le, List, Some, None, refl, ap, arith}
use Rattle.std.specs.Char.{digit_value}
use Rattle.std.specs.Str.{bytes_eq}
use Rattle.std.specs.Str.Parse.{digits_value}
use Rattle.std.proofs.Math.Nat.{pow-suc, pow-le-pow_right}
use Rattle.std.proofs.lemmas.Bool.{and_parts}
use Rattle.std.proofs.lemmas.Bool.Decides.{nat_tests}
use Rattle.std.proofs.lemmas.Int.Digits.{digits_value_push}
use Rattle.std.proofs.lemmas.Slice.Eq.{bytes_eq-Decides}
use Rattle.bucket_ids.specs.Buckets.{Low, IsBucket}
use Rattle.bucket_ids.specs.Printed.{printed, number_of, hex_digit, hex_digits}
use Rattle.message_texts.specs.Parts.{bucket_by, is_printed, bucket_in}

digit_back : (d : ℕ) → d < 16 → digit_value (hex_digit d) ≡ d
digit_back d lt = grind (arith, nat_tests)

number_back : (k n : ℕ) → n < 16 ^ k → digits_value 16 (hex_digits k n) ≡ n
unfolding hex_digits
number_back zero n lt = omega (arith, lt)
number_back (suc k) n lt =
    let low : n / 16 < 16 ^ k = omega (arith, lt, pow-suc 16 k) in
    digits_value_push 16 (hex_digits k (n / 16)) (hex_digit (n % 16))
    ∙ ap (λ (v : ℕ). v * 16 + digit_value (hex_digit (n % 16))) (number_back k (n / 16) low)
    ∙ ap (λ (v : ℕ). n / 16 * 16 + v) (digit_back (n % 16) (omega arith))
    ∙ omega arith

-- a low part has no more bits than the widest bucket
small : (b : Low) → IsBucket b → b.low < 2 ^ 58
small b is = omega (arith, is.fits, pow-le-pow_right {n = 2} (omega arith) is.most)

number_small : (b : Low) → IsBucket b → number_of b < 16 ^ 16
number_small b is = omega (arith, small b is, is.most)

same_low : (a b : Low) → a.bits ≡ b.bits → a.low ≡ b.low → a ≡ b
same_low a b p q = λ i. record { bits = p i; low = q i }

by_back : (b : Low) → IsBucket b → bucket_by (printed b) ≡ b
unfolding printed
by_back b is =
    let n = number_back 16 (number_of b) (number_small b is) in
    same_low (bucket_by (hex_digits 16 (number_of b))) b
    (ap (λ (v : ℕ). v / 2 ^ 58) n ∙ omega (arith, small b is))
    (ap (λ (v : ℕ). v % 2 ^ 58) n ∙ omega (arith, small b is))

at_most : (a b : ℕ) → a ≤ b → nat_le a b ≡ true
at_most a b le = grind (arith, nat_tests)

under : (a b : ℕ) → a < b → nat_lt a b ≡ true
under a b lt = grind (arith, nat_tests)

all_true : (a b c d : Bool) → a ≡ true → b ≡ true → c ≡ true → d ≡ true → ((a && (b && c)) && d) ≡ true
all_true true true true true p q r s = refl
all_true true true true false p q r s = cc
all_true true true false d p q r s = cc
all_true true false c d p q r s = cc
all_true false b c d p q r s = cc

its_own : (b : Low) → IsBucket b → is_printed (printed b) b ≡ true
its_own b is = all_true _ _ _ _ (at_most 1 b.bits is.some) (at_most b.bits 58 is.most) (under b.low (2 ^ b.bits) is.fits) ((bytes_eq-Decides (printed b) (printed b)).1 refl)

-- the text of a bucket is that bucket's
pub printed_bucket : (b : Low) → IsBucket b → bucket_in (printed b) ≡ Some b
unfolding bucket_in
printed_bucket b is =
    ap (λ (a : Low). cond (is_printed (printed b) a) (Some a) None) (by_back b is)
    ∙ ap (λ (t : Bool). cond t (Some b) None) (its_own b is)

-- what stands in a bucket's text is a bucket
pub is_bucket : (text : List ℕ) (b : Low) → is_printed text b ≡ true → IsBucket b
is_bucket text b e =
    let h = and_parts (nat_le 1 b.bits && (nat_le b.bits 58 && nat_lt b.low (2 ^ b.bits))) (bytes_eq text (printed b)) e in
    let r = and_parts (nat_le 1 b.bits) (nat_le b.bits 58 && nat_lt b.low (2 ^ b.bits)) h.0 in
    let s = and_parts (nat_le b.bits 58) (nat_lt b.low (2 ^ b.bits)) r.1 in
    record { some = least 1 b.bits r.0; most = least b.bits 58 s.0; fits = lower b.low (2 ^ b.bits) s.1 }
  where
    least : (a b : ℕ) → nat_le a b ≡ true → a ≤ b
    least a b e = grind (arith, nat_tests)

    lower : (a b : ℕ) → nat_lt a b ≡ true → a < b
    lower a b e = grind (arith, nat_tests)

-- and a text of none is no bucket's
pub no_bucket : (text : List ℕ) → ((b : Low) → IsBucket b → text ≢ printed b) → bucket_in text ≡ None
unfolding bucket_in
no_bucket text none = by (is_printed text (bucket_by text)) refl
  where
    by : (t : Bool) → is_printed text (bucket_by text) ≡ t → cond t (Some (bucket_by text)) None ≡ None
    by false e = refl
    by true e =
        let b = bucket_by text in
        absurd (none b (is_bucket text b e) ((bytes_eq-Decides text (printed b)).0 (and_parts (nat_le 1 b.bits && (nat_le b.bits 58 && nat_lt b.low (2 ^ b.bits))) (bytes_eq text (printed b)) e).1))
