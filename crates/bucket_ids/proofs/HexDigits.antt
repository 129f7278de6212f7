-- Hexadecimal digits: what they read as, and that two numbers of the same digits are one.
use Rattle.std.proofs.Common.{◌≡◌, ℕ, zero, suc, ◌+◌, ◌-◌, ◌*◌, ◌/◌, ◌%◌, ◌^◌, ◌<◌, List, [], ◌∷◌, ◌++◌, length, get_or, take, inl, inr, refl, sym, ap, ap₂, ◌∙◌, subst₂, arith, add-one, pow-suc, pow_mono, Result, Ok, Err, IfOk, OnErr}
use Rattle.std.proofs.lemmas.List.{same_from_push, length_push, get_or_push, take_more, get_or_append_left}
use Rattle.std.proofs.lemmas.Nat.{mod_below, div-mul-add, mod-mul-add, shr-shr, same_from_place, div-add-mod'}
use Rattle.std.proofs.Math.Nat.{pow-le-pow_right}
use Rattle.std.proofs.lemmas.Bool.{cases_eq}
use Rattle.std.proofs.lemmas.Bool.Decides.{nat_tests}
use Rattle.bucket_ids.specs.Buckets.{Low, IsBucket}
use Rattle.bucket_ids.specs.Printed.{hex_digit, hex_digits, number_of, printed}

pub hex_digits-push : (k n d : ℕ) → d < 16 → hex_digits (k + 1) (n * 16 + d) ≡ hex_digits k n ++ hex_digit d ∷ []
unfolding hex_digits
hex_digits-push k n d h = rw (add-one k) (ap₂ (λ x y. hex_digits k x ++ hex_digit y ∷ []) (div-mul-add n 16 d h) (mod-mul-add n 16 d h))

pub hex_digits-more : (k n : ℕ) → hex_digits (k + 1) n ≡ hex_digits k (n / 16) ++ hex_digit (n % 16) ∷ []
unfolding hex_digits
hex_digits-more k n = rw (add-one k) refl

pub length-hex_digits : (k n : ℕ) → length (hex_digits k n) ≡ k
unfolding hex_digits
length-hex_digits zero n = refl
length-hex_digits (suc k) n = length_push (hex_digits k (n / 16)) (hex_digit (n % 16)) ∙ omega (arith, length-hex_digits k (n / 16))

hex_digit_apart : (a b : ℕ) → a < 16 → b < 16 → hex_digit a ≡ hex_digit b → a ≡ b
hex_digit_apart a b p q h = grind (arith, nat_tests)

-- below 16 ^ k, numbers of the same digits are one
pub hex_digits_apart : (k m n : ℕ) → m < 16 ^ k → n < 16 ^ k → hex_digits k m ≡ hex_digits k n → m ≡ n
unfolding hex_digits
hex_digits_apart zero m n p q h = omega arith
hex_digits_apart (suc k) m n p q h =
    let parts = same_from_push (hex_digits k (m / 16)) (hex_digits k (n / 16)) (hex_digit (m % 16)) (hex_digit (n % 16)) h in
    let high = hex_digits_apart k (m / 16) (n / 16) (below m k p) (below n k q) parts.0 in
    let low = hex_digit_apart (m % 16) (n % 16) (mod_below m 16 (omega arith)) (mod_below n 16 (omega arith)) parts.1 in
    omega (arith, high, low)
  where
    below : (x k : ℕ) → x < 16 ^ suc k → x / 16 < 16 ^ k
    below x k h = omega (arith, pow-suc 16 k)

-- each digit is one of the sixteen
pub hex_digits_at : (k n i : ℕ) → i < k → (d : ℕ) × ((d < 16) × (get_or (hex_digits k n) i 0 ≡ hex_digit d))
unfolding hex_digits
hex_digits_at zero n i h = absurd (omega arith)
hex_digits_at (suc k) n i h = elim (cases_eq i k) [
  | inl last ↦ (n % 16, (mod_below n 16 (omega arith), get_or_push (hex_digits k (n / 16)) (hex_digit (n % 16)) 0 i (length-hex_digits k (n / 16) ∙ sym last)))
  | inr before ↦
      let lower : i < k = omega arith in
      let rest = hex_digits_at k (n / 16) i lower in
      (rest.0, (rest.1.0, get_or_append_left (hex_digits k (n / 16)) (hex_digit (n % 16) ∷ []) 0 i (omega (arith, length-hex_digits k (n / 16))) ∙ rest.1.1))
]

pub low_below : (b : Low) → IsBucket b → b.low < 2 ^ 58
low_below b ok = omega (arith, ok.fits, pow_mono {i = b.bits} {j = 58} ok.most)

pub number_below : (b : Low) → IsBucket b → number_of b < 2 ^ 64
number_below b ok = omega (arith, ok.fits, ok.most, low_below b ok)

pub printed_apart : (a b : Low) → IsBucket a → IsBucket b → printed a ≡ printed b → (a.bits ≡ b.bits) × (a.low ≡ b.low)
unfolding printed
printed_apart a b p q h =
    let same = hex_digits_apart 16 (number_of a) (number_of b) (number_below a p) (number_below b q) h in
    same_from_place a.bits a.low b.bits b.low (2 ^ 58) (low_below a p) (low_below b q) same

-- the number of a printed bucket has the bucket's parts
pub parts_of_number : (bytes : List ℕ) (n : ℕ) (b : Low) → bytes ≡ hex_digits 16 n → n < 2 ^ 64 → IsBucket b → bytes ≡ printed b → (n / 2 ^ 58 ≡ b.bits) × (n % 2 ^ 58 ≡ b.low)
unfolding printed
parts_of_number bytes n b e h ok p =
    let same = hex_digits_apart 16 n (number_of b) h (number_below b ok) (sym e ∙ p) in
    (ap (λ x. x / 2 ^ 58) same ∙ div-mul-add b.bits (2 ^ 58) b.low (low_below b ok), ap (λ x. x % 2 ^ 58) same ∙ mod-mul-add b.bits (2 ^ 58) b.low (low_below b ok))

pub printed_of_number : (bytes : List ℕ) (n : ℕ) → bytes ≡ hex_digits 16 n → bytes ≡ printed (record { bits = n / 2 ^ 58; low = n % 2 ^ 58 })
unfolding printed
printed_of_number bytes n e = e ∙ ap (hex_digits 16) (sym (div-add-mod' n (2 ^ 58)))

pub digits_fit : (n d i : ℕ) → n < 16 ^ i → d < 16 → n * 16 + d < 16 ^ (i + 1)
digits_fit n d i h small = rw (add-one, pow-suc 16 i) (omega arith)

pub number_fits : (n d i : ℕ) → n < 16 ^ i → d < 16 → i < 16 → n * 16 + d < 2 ^ 64
number_fits n d i h small room = omega (arith, digits_fit n d i h small, pow-le-pow_right {n = 16} (omega arith) {i = i + 1} {j = 16} (omega arith))

pub product_fits : (n i : ℕ) → n < 16 ^ i → i < 16 → n * 16 < 2 ^ 64
product_fits n i h room = omega (arith, number_fits n 0 i h (omega arith) room)

pub digits_pushed : (bytes : List ℕ) (n d i : ℕ) → i < length bytes → take i bytes ≡ hex_digits i n → d < 16 → get_or bytes i 0 ≡ hex_digit d → take (i + 1) bytes ≡ hex_digits (i + 1) (n * 16 + d)
digits_pushed bytes n d i h so_far small is =
    take_more bytes i 0 h ∙ ap₂ (λ x y. x ++ y ∷ []) so_far is ∙ sym (hex_digits-push i n d small)

-- one digit more is printed
pub hex_digits_next : (n i : ℕ) → i < 16 → hex_digits (i + 1) (n / 2 ^ (64 - 4 * (i + 1))) ≡ hex_digits i (n / 2 ^ (64 - 4 * i)) ++ hex_digit (n / 2 ^ (60 - 4 * i) % 16) ∷ []
hex_digits_next n i h =
    let at : 64 - 4 * (i + 1) ≡ 60 - 4 * i = omega arith in
    let more : (60 - 4 * i) + 4 ≡ 64 - 4 * i = omega arith in
    ap (λ k. hex_digits (i + 1) (n / 2 ^ k)) at
    ∙ hex_digits-more i (n / 2 ^ (60 - 4 * i))
    ∙ ap (λ x. hex_digits i x ++ hex_digit (n / 2 ^ (60 - 4 * i) % 16) ∷ []) (shr-shr n (60 - 4 * i) 4 ∙ ap (λ k. n / 2 ^ k) more)

pub hex_digits-none : (n : ℕ) → hex_digits 0 n ≡ []
unfolding hex_digits
hex_digits-none n = refl

printed_like : (bytes : List ℕ) (n : ℕ) → bytes ≡ hex_digits 16 n → (b : Low) → b.bits ≡ n / 2 ^ 58 → b.low ≡ n % 2 ^ 58 → bytes ≡ printed b
printed_like bytes n e b bits low = printed_of_number bytes n e ∙ ap₂ (λ x y. printed (record { bits = x; low = y })) (sym bits) (sym low)

-- a bucket of the parts of a text's number prints as the text
pub reads_as : (bytes : List ℕ) (n : ℕ) → bytes ≡ hex_digits 16 n → (b : Low) → IsBucket b × (b.bits ≡ n / 2 ^ 58) × (b.low ≡ n % 2 ^ 58) → IsBucket b × (bytes ≡ printed b)
reads_as bytes n e b parts = (parts.0, printed_like bytes n e b parts.1 parts.2)

-- where what is read prints as the text, and a refused text is printed of none, each bucket's text is read as it
pub read_exactly : {E : Type 0} (bytes : List ℕ) (r : Result Low E) → IfOk r (λ b. IsBucket b × (bytes ≡ printed b)) → OnErr r ((b : Low) → IsBucket b → bytes ≡ printed b → ⊥) → (b : Low) → IsBucket b → bytes ≡ printed b → r ≡ Ok b
read_exactly bytes (Ok x) read refused b ok p =
    let same = printed_apart x b read.0 ok (sym read.1 ∙ p) in
    ap₂ (λ bits low. Ok (record { bits = bits; low = low })) same.0 same.1
read_exactly bytes (Err e) read refused b ok p = absurd (refused b ok p)

-- no bucket prints as the digits of a number whose parts are no bucket
pub no_bucket : (bytes : List ℕ) (n : ℕ) → bytes ≡ hex_digits 16 n → n < 2 ^ 64 → (IsBucket (record { bits = n / 2 ^ 58; low = n % 2 ^ 58 }) → ⊥) → (b : Low) → IsBucket b → bytes ≡ printed b → ⊥
no_bucket bytes n e h none b ok p =
    let parts = parts_of_number bytes n b e h ok p in
    none (subst₂ (λ x y. IsBucket (record { bits = x; low = y })) (sym parts.0) (sym parts.1) ok)

pub no_number : (bytes : List ℕ) → ((n : ℕ) → bytes ≡ hex_digits 16 n → ⊥) → (b : Low) → bytes ≡ printed b → ⊥
unfolding printed
no_number bytes none b p = none (number_of b) p
