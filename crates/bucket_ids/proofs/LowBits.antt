-- The low bits of numbers.
use Rattle.std.proofs.Common.{◌≡◌, ℕ, ◌+◌, ◌-◌, ◌*◌, ◌/◌, ◌%◌, ◌^◌, ◌<◌, ◌≤◌, ◌⊎◌, inl, inr, sym, ap, ◌∙◌, subst, arith, add_comm}
use Rattle.std.proofs.lemmas.Nat.{mod-pow-add, mod_below}
use Rattle.std.proofs.Math.Pow.{mod-mod-pow}
use Rattle.std.proofs.lemmas.Bool.{cases_lt}

-- the low bits of the low bits
pub low_of_low : (key i j : ℕ) → i ≤ j → key % 2 ^ j % 2 ^ i ≡ key % 2 ^ i
low_of_low key i j h =
    let e : j ≡ (j - i) + i = omega arith in
    subst (λ m. key % 2 ^ m % 2 ^ i ≡ key % 2 ^ i) (sym e) (mod-mod-pow key (j - i) i)

bit_cases : (q : ℕ) → q < 2 → (q ≡ 0) ⊎ (q ≡ 1)
bit_cases q h = elim (cases_lt q 1) [ inl none ↦ inl (omega arith) | inr one ↦ inr (omega arith) ]

-- one bit more is 0 or 1
pub next_bit : (key k low : ℕ) → key % 2 ^ k ≡ low → (key % 2 ^ (k + 1) ≡ low) ⊎ (key % 2 ^ (k + 1) ≡ low + 2 ^ k)
next_bit key k low h =
    let q = key / 2 ^ k % 2 ^ 1 in
    let whole : key % 2 ^ (k + 1) ≡ q * 2 ^ k + key % 2 ^ k = ap (λ m. key % 2 ^ m) (add_comm k 1) ∙ mod-pow-add key 1 k in
    elim (bit_cases q (mod_below (key / 2 ^ k) 2 (omega arith))) [
      | inl zero ↦ inl (whole ∙ ap (λ x. x * 2 ^ k + key % 2 ^ k) zero ∙ (omega (arith, h)))
      | inr one ↦ inr (whole ∙ ap (λ x. x * 2 ^ k + key % 2 ^ k) one ∙ (omega (arith, h)))
    ]
