-- Numerals, digit after digit.
use Rattle.std.proofs.Common.{◌≡◌, ◌≢◌, ℕ, zero, suc, ◌+◌, ◌-◌, ◌*◌, ◌/◌, ◌%◌, ◌^◌, ◌<◌, ◌≤◌, List, [], ◌∷◌, ◌++◌, length, refl, sym, ap, ap₂, subst, ◌∙◌, arith}
use Rattle.std.proofs.lemmas.List.{append_assoc, append-nil}
use Rattle.std.specs.Fmt.{decimal}
use Rattle.std.proofs.lemmas.Fmt.{decimal_step, decimal_by_steps}
use Rattle.cluster_states.specs.Scanning.{AreDigits, value_from, Continues}

-- a list of a first digit and others
pub record Starts (n : ℕ) (ds : List ℕ) : Type 0 where
  pub first : ℕ
  pub others : List ℕ
  pub is : ds ≡ first ∷ others
  pub low : 48 ≤ first
  pub high : first < 58
  pub rest : Continues (first - 48) others n

digits-push : (ds : List ℕ) (d : ℕ) → AreDigits ds → d < 10 → AreDigits (ds ++ (48 + d) ∷ [])
digits-push [] d h lt = (omega arith, (omega arith, tt))
digits-push (c ∷ ds) d h lt = (h.0, (h.1.0, digits-push ds d h.1.1 lt))

value-push : (n : ℕ) (ds : List ℕ) (d : ℕ) → value_from n (ds ++ (48 + d) ∷ []) ≡ 10 * value_from n ds + d
value-push n [] d = omega arith
value-push n (c ∷ ds) d = value-push (10 * n + (c - 48)) ds d

one_digit : (n : ℕ) → n < 10 → Starts n ((48 + n) ∷ [])
one_digit n lt = record { first = 48 + n; others = []; is = refl; low = omega arith; high = omega arith; rest = record { digits = tt; value = omega arith; no_zero = λ e. refl } }

no_ten : (n : ℕ) (ds : List ℕ) → ds ≡ [] → n ≡ value_from 0 ds → n ≡ 0
no_ten n ds e v = v ∙ ap (value_from 0) e

more_digits : (n : ℕ) (ds : List ℕ) → 10 ≤ n → Starts (n / 10) ds → Starts n (ds ++ (48 + n % 10) ∷ [])
more_digits n ds ten s =
    let split : n ≡ 10 * (n / 10) + n % 10 = omega arith in
    record {
      first = s.first;
      others = s.others ++ (48 + n % 10) ∷ [];
      is = ap (λ l. l ++ (48 + n % 10) ∷ []) s.is;
      low = s.low;
      high = s.high;
      rest = record {
        digits = digits-push s.others (n % 10) s.rest.digits (omega arith);
        value = split ∙ ap (λ v. 10 * v + n % 10) s.rest.value ∙ sym (value-push (s.first - 48) s.others (n % 10));
        no_zero = λ e. absurd (let none = no_ten (n / 10) s.others (s.rest.no_zero e) (s.rest.value ∙ ap (λ k. value_from k s.others) e) in omega (arith, none, split));
      };
    }

pub starts : (n : ℕ) → n < 2 ^ 64 → Starts n (decimal n)
starts n lt = decimal_by_steps (λ k ds. Starts k ds) one_digit more_digits n lt

-- a number is at least what its first digits say
pub value_from-le : (n : ℕ) (ds : List ℕ) → n ≤ value_from n ds
value_from-le n [] = omega arith
value_from-le n (c ∷ ds) = omega (arith, value_from-le (10 * n + (c - 48)) ds)

pub continued : (n : ℕ) (ds : List ℕ) (v : ℕ) → Continues n ds v → v < 2 ^ 64 → decimal v ≡ decimal n ++ ds
continued n [] v h lt = ap decimal h.value ∙ sym (append-nil (decimal n))
continued n (c ∷ ds) v h lt =
    let some : n ≢ 0 = λ e. nothing_follows (h.no_zero e) in
    let next : ℕ = 10 * n + (c - 48) in
    let low = h.digits.0 in
    let high = h.digits.1.0 in
    let small : next ≤ v = subst (λ k. next ≤ k) (sym h.value) (value_from-le next ds) in
    let front : next / 10 ≡ n = omega (arith, pos_of n some) in
    let last : 48 + next % 10 ≡ c = omega (arith, pos_of n some) in
    let step : decimal next ≡ decimal n ++ c ∷ [] = decimal_step next (omega (arith, pos_of n some)) (omega arith) ∙ ap₂ (λ k d. decimal k ++ d ∷ []) front last in
    continued next ds v (record { digits = h.digits.1.1; value = h.value; no_zero = λ e. absurd (omega (arith, pos_of n some, e)) }) lt
    ∙ ap (λ l. l ++ ds) step ∙ append_assoc (decimal n) (c ∷ []) ds
  where
    nothing_follows : c ∷ ds ≡ [] → ⊥
    nothing_follows e = absurd (omega (arith, ap length e))

    pos_of : (k : ℕ) → k ≢ 0 → 1 ≤ k
    pos_of zero other = absurd (other refl)
    pos_of (suc k) other = omega arith
