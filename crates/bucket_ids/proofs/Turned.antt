-- Keys with their bits turned round: each bucket is one run.
use Rattle.std.proofs.Common.{◌≡◌, ℕ, zero, suc, ◌+◌, ◌-◌, ◌*◌, ◌/◌, ◌%◌, ◌^◌, ◌<◌, ◌≤◌, ◌↔◌, refl, sym, ap, ap₂, ◌∙◌, arith, mod-eq_of_lt, pow_pos, pow-suc, add-one, add-mul, mul_assoc, mul_comm, zero-add, suc-add, div-one, one-add, mul-le-mul_right, suc-mul}
use Rattle.std.specs.Int.{reverse_bits_onto}
use Rattle.std.proofs.lemmas.Nat.{mod-pow-add, mod_below, shr-shr, pow-add, same_from_place, shr_high, mod_low}
use Rattle.std.proofs.Math.Nat.{div-eq_of_lt}
use Rattle.std.proofs.Math.Pow.{pow_mono}
use Rattle.std.proofs.lemmas.Nat.Bits.{ones_shr}
use Rattle.bucket_ids.specs.Buckets.{Low, IsBucket, IsIn, first_child, second_child}
use Rattle.bucket_ids.specs.Paths.{path, first_path, last_path}

-- the lowest k bits, last first
abbrev turned : ℕ → ℕ → ℕ
turned k n = reverse_bits_onto k n 0

-- the products of the two sides of `onto`
spread : (a q p : ℕ) → (a * 2 + q) * p ≡ a * (p * 2) + q * p
spread a q p = rw (add-mul (a * 2) q p, mul_assoc a 2 p, mul_comm 2 p) refl

onto : (k n a : ℕ) → reverse_bits_onto k n a ≡ a * 2 ^ k + turned k n
unfolding reverse_bits_onto
onto zero n a = omega arith
onto (suc k) n a =
    onto k (n / 2) (a * 2 + n % 2)
    ∙ (rw pow-suc (omega (arith, onto k (n / 2) (0 * 2 + n % 2), spread a (n % 2) (2 ^ k), spread 0 (n % 2) (2 ^ k))))

step : (k n : ℕ) → turned (suc k) n ≡ n % 2 * 2 ^ k + turned k (n / 2)
unfolding reverse_bits_onto
step k n = onto k (n / 2) (0 * 2 + n % 2) ∙ (omega (arith, spread 0 (n % 2) (2 ^ k)))

bit_row : (q p : ℕ) → q < 2 → q * p ≤ p
bit_row zero p h = omega arith
bit_row (suc zero) p h = omega arith
bit_row (suc (suc q)) p h = absurd (omega arith)

turned_below : (k n : ℕ) → turned k n < 2 ^ k
unfolding reverse_bits_onto
turned_below zero n = omega arith
turned_below (suc k) n =
    rw (step k n) (omega (arith, turned_below k (n / 2), pow-suc 2 k, bit_row (n % 2) (2 ^ k) (mod_below n 2 (omega arith))))

turned_zero : (k : ℕ) → turned k 0 ≡ 0
unfolding reverse_bits_onto
turned_zero zero = refl
turned_zero (suc k) = step k 0 ∙ omega (arith, turned_zero k)

-- the bits above the lowest j come last
turned-add : (j i n : ℕ) → turned (j + i) n ≡ turned j n * 2 ^ i + turned i (n / 2 ^ j)
unfolding reverse_bits_onto
turned-add zero i n = rw (zero-add i, div-one n) (omega arith)
turned-add (suc j) i n =
    let tail : n / 2 / 2 ^ j ≡ n / 2 ^ suc j = halves n j in
    ap (λ m. turned m n) (suc-add j i)
    ∙ step (j + i) n
    ∙ ap (λ x. n % 2 * 2 ^ (j + i) + x) (turned-add j i (n / 2))
    ∙ rows (n % 2) (2 ^ j) (2 ^ i) (2 ^ (j + i)) (turned j (n / 2)) (turned i (n / 2 / 2 ^ j)) (pow-add 2 j i)
    ∙ ap (λ x. x * 2 ^ i + turned i (n / 2 / 2 ^ j)) (sym (step j n))
    ∙ ap (λ x. turned (suc j) n * 2 ^ i + turned i x) tail
  where
    halves : (n j : ℕ) → n / 2 / 2 ^ j ≡ n / 2 ^ suc j
    halves n j = shr-shr n 1 j ∙ ap (λ m. n / 2 ^ m) (one-add j)

    rows : (q a b c x y : ℕ) → c ≡ a * b → q * c + (x * b + y) ≡ (q * a + x) * b + y
    rows q a b c x y e = rw (e, add-mul (q * a) x b, mul_assoc q a b) (omega arith)

-- the bits of a number of k + 1 bits
low_split : (n k : ℕ) → n % 2 ^ suc k ≡ (n / 2 ^ 1 % 2 ^ k) * 2 ^ 1 + n % 2 ^ 1
low_split n k = ap (λ m. n % 2 ^ m) (sym (add-one k)) ∙ mod-pow-add n k 1

-- the lowest k bits alone decide
turned_same : (k a b : ℕ) → a % 2 ^ k ≡ b % 2 ^ k → turned k a ≡ turned k b
unfolding reverse_bits_onto
turned_same zero a b h = refl
turned_same (suc k) a b h =
    let parts = same_from_place (a / 2 ^ 1 % 2 ^ k) (a % 2 ^ 1) (b / 2 ^ 1 % 2 ^ k) (b % 2 ^ 1) (2 ^ 1) (mod_below a 2 (omega arith)) (mod_below b 2 (omega arith))
    (sym (low_split a k) ∙ h ∙ low_split b k) in
    step k a ∙ ap₂ (λ q x. q * 2 ^ k + x) parts.1 (turned_same k (a / 2) (b / 2) parts.0) ∙ sym (step k b)

turned_apart : (k a b : ℕ) → turned k a ≡ turned k b → a % 2 ^ k ≡ b % 2 ^ k
unfolding reverse_bits_onto
turned_apart zero a b h = omega (arith, mod_below a 1 (omega arith), mod_below b 1 (omega arith))
turned_apart (suc k) a b h =
    let parts = same_from_place (a % 2) (turned k (a / 2)) (b % 2) (turned k (b / 2)) (2 ^ k) (turned_below k (a / 2)) (turned_below k (b / 2))
    (sym (step k a) ∙ h ∙ step k b) in
    low_split a k ∙ ap₂ (λ x q. x * 2 ^ 1 + q) (turned_apart k (a / 2) (b / 2) parts.1) parts.0 ∙ sym (low_split b k)

-- ---- the run of a bucket

-- a path by the lowest j bits and the others
path_split : (j i key : ℕ) → j + i ≡ 64 → path key ≡ turned j key * 2 ^ i + turned i (key / 2 ^ j)
unfolding path
path_split j i key e = ap (λ m. turned m key) (sym e) ∙ turned-add j i key

path_of_low : (j i low : ℕ) → j + i ≡ 64 → low < 2 ^ j → path low ≡ turned j low * 2 ^ i
path_of_low j i low e h =
    path_split j i low e ∙ ap (λ x. turned j low * 2 ^ i + turned i x) (div_small low (2 ^ j) h) ∙ ap (λ x. turned j low * 2 ^ i + x) (turned_zero i) ∙ omega arith
  where
    div_small : (n m : ℕ) → n < m → n / m ≡ 0
    div_small n m h = div-eq_of_lt h

in_run : (A B p d : ℕ) → d < p → (B * p ≤ A * p + d) → (A * p + d ≤ B * p + (p - 1)) → A ≡ B
in_run A B p d small low high =
    let rest = (A * p + d) - B * p in
    let e : A * p + d ≡ B * p + rest = omega arith in
    (same_from_place A d B rest p small (omega arith) e).0

pub bucket_run : (b : Low) (key : ℕ) → IsBucket b → key < 2 ^ 58 → IsIn b key ↔ ((first_path b ≤ path key) × (path key ≤ last_path b))
bucket_run b key ok small =
    let i = 64 - b.bits in
    let e : b.bits + i ≡ 64 = omega (arith, ok.most) in
    let start = path_of_low b.bits i b.low e ok.fits in
    let here = path_split b.bits i key e in
    let rest = turned_below i (key / 2 ^ b.bits) in (
      λ h.
          let same : turned b.bits key ≡ turned b.bits b.low = turned_same b.bits key b.low (h.1 ∙ sym (mod-eq_of_lt ok.fits)) in
          let place : path key ≡ turned b.bits b.low * 2 ^ i + turned i (key / 2 ^ b.bits) = here ∙ ap (λ x. x * 2 ^ i + turned i (key / 2 ^ b.bits)) same in
          (omega (arith, place, start), omega (arith, place, start, rest)),
      λ h.
          let same : turned b.bits key ≡ turned b.bits b.low =
          in_run (turned b.bits key) (turned b.bits b.low) (2 ^ i) (turned i (key / 2 ^ b.bits)) rest (omega (arith, here, start, h.0)) (omega (arith, here, start, h.1)) in
          (small, turned_apart b.bits key b.low same ∙ mod-eq_of_lt ok.fits),
    )

pub run_within : (b : Low) → IsBucket b → last_path b < 2 ^ 64
run_within b ok =
    let i = 64 - b.bits in
    let e : b.bits + i ≡ 64 = omega (arith, ok.most) in
    let start = path_of_low b.bits i b.low e ok.fits in
    let top : 2 ^ b.bits * 2 ^ i ≡ 2 ^ 64 = sym (pow-add 2 b.bits i) ∙ ap (λ m. 2 ^ m) e in
    let row = mul-le-mul_right (2 ^ i) (turned_below b.bits b.low) in
    omega (arith, start, top, row, pow_pos i, suc-mul (turned b.bits b.low) (2 ^ i))

pub paths_apart : (a b : ℕ) → a < 2 ^ 58 → b < 2 ^ 58 → path a ≡ path b → a ≡ b
unfolding path
paths_apart a b p q h =
    sym (mod-eq_of_lt (omega arith)) ∙ turned_apart 64 a b h ∙ mod-eq_of_lt (omega arith)

second_path : (b : Low) → IsBucket b → b.bits < 58 → path (b.low + 2 ^ b.bits) ≡ path b.low + 2 ^ (64 - (b.bits + 1))
unfolding reverse_bits_onto
second_path b ok h =
    let k = b.bits in
    let i = 64 - (k + 1) in
    let e : (k + 1) + i ≡ 64 = omega arith in
    let e' : k + suc i ≡ 64 = omega arith in
    let fits : b.low + 2 ^ k < 2 ^ (k + 1) = rw (add-one, pow-suc 2 k) (omega (arith, ok.fits)) in
    let whole = path_of_low (k + 1) i (b.low + 2 ^ k) e fits in
    let more : turned (k + 1) (b.low + 2 ^ k) ≡ turned k (b.low + 2 ^ k) * 2 ^ 1 + turned 1 ((b.low + 2 ^ k) / 2 ^ k) = turned-add k 1 (b.low + 2 ^ k) in
    let one : (b.low + 2 ^ k) / 2 ^ k ≡ 1 = ap (λ x. x / 2 ^ k) (turn_sum b.low (2 ^ k)) ∙ shr_high 1 k b.low ok.fits in
    let same : turned k (b.low + 2 ^ k) ≡ turned k b.low = turned_same k (b.low + 2 ^ k) b.low (ap (λ x. x % 2 ^ k) (turn_sum b.low (2 ^ k)) ∙ mod_low 1 k b.low ok.fits ∙ sym (mod-eq_of_lt ok.fits)) in
    let last : turned 1 ((b.low + 2 ^ k) / 2 ^ k) ≡ 1 = ap (turned 1) one in
    let start = path_of_low k (suc i) b.low e' ok.fits in
    whole ∙ ap (λ x. x * 2 ^ i) (more ∙ ap₂ (λ x y. x * 2 ^ 1 + y) same last) ∙ widen (turned k b.low) (2 ^ i) ∙ ap (λ x. x + 2 ^ i) (ap (λ p. turned k b.low * p) (sym (pow-suc 2 i)) ∙ sym start)
  where
    turn_sum : (a p : ℕ) → a + p ≡ 1 * p + a
    turn_sum a p = omega arith

    widen : (t p : ℕ) → (t * 2 ^ 1 + 1) * p ≡ t * (p * 2) + p
    widen t p = rw (add-mul (t * 2) 1 p, mul_assoc t 2 p, mul_comm 2 p) (omega arith)

pub runs_seam : (b : Low) → IsBucket b → b.bits < 58 → first_path (second_child b) ≡ last_path (first_child b) + 1
runs_seam b ok h = omega (arith, second_path b ok h, pow_pos (64 - (b.bits + 1)))

pub runs_last : (b : Low) → IsBucket b → b.bits < 58 → last_path (second_child b) ≡ last_path b
runs_last b ok h =
    let e : 64 - b.bits ≡ suc (64 - (b.bits + 1)) = omega arith in
    let double : 2 ^ (64 - b.bits) ≡ 2 ^ (64 - (b.bits + 1)) * 2 = ap (λ m. 2 ^ m) e ∙ pow-suc 2 (64 - (b.bits + 1)) in
    omega (arith, second_path b ok h, double, pow_pos (64 - (b.bits + 1)))

pub run_end : (b : Low) → IsBucket b → path b.low + 18446744073709551615 / 2 ^ b.bits ≡ last_path b
run_end b ok = ap (λ x. path b.low + x) (ones_shr 64 b.bits (omega (arith, ok.most)))

-- ---- four bits at a time

pub four_more : (k n a : ℕ) → reverse_bits_onto (4 + k) n a ≡ reverse_bits_onto k (n / 16) (a * 16 + reverse_bits_onto 4 (n % 16) 0)
four_more k n a =
    let same : n % 2 ^ 4 ≡ n % 16 % 2 ^ 4 = sym (mod-eq_of_lt (mod_below n 16 (omega arith))) in
    onto (4 + k) n a
    ∙ ap (λ x. a * 2 ^ (4 + k) + x) (turned-add 4 k n ∙ ap (λ t. t * 2 ^ k + turned k (n / 2 ^ 4)) (turned_same 4 n (n % 16) same))
    ∙ rows a (2 ^ k) (2 ^ (4 + k)) (turned 4 (n % 16)) (turned k (n / 16)) (pow-add 2 4 k)
    ∙ sym (onto k (n / 16) (a * 16 + turned 4 (n % 16)))
  where
    rows : (a b c x y : ℕ) → c ≡ 16 * b → a * c + (x * b + y) ≡ (a * 16 + x) * b + y
    rows a b c x y e = rw (e, add-mul (a * 16) x b, mul_assoc a 16 b) (omega arith)

pub four_fit : (k p t : ℕ) → p < 2 ^ (4 * k) → t < 16 → p * 16 + t < 2 ^ (4 * (k + 1))
four_fit k p t h small =
    let more : 2 ^ (4 * (k + 1)) ≡ 2 ^ (4 * k) * 2 ^ 4 = ap (λ m. 2 ^ m) (omega arith) ∙ pow-add 2 (4 * k) 4 in
    omega (arith, more)

pub four_within : (k : ℕ) → k < 16 → 2 ^ (4 * (k + 1)) ≤ 2 ^ 64
four_within k h =
    let few : 4 * (k + 1) ≤ 64 = omega (arith, h) in
    pow_mono few
