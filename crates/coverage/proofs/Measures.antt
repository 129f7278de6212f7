-- What buckets measure is how often all keys lie in them.
use Rattle.std.proofs.Common.{◌≡◌, ℕ, ◌+◌, ◌*◌, ◌-◌, ◌^◌, ◌<◌, ◌≤◌, cond, List, [], ◌∷◌, refl, sym, ap, ◌∙◌, subst, arith}
use Rattle.std.specs.List.{AllByRecursion}
use Rattle.std.proofs.lemmas.Nat.{pow-add}
use Rattle.bucket_ids.specs.Buckets.{Low, IsBucket, has_key, measure}
use Rattle.coverage.specs.Covering.{times, measure_of, CoverOnce}
use Rattle.coverage.proofs.Sums.{sum_below, sum_below-zero, sum_below-add, at_most, one_each, with_rest, in_blocks}

-- the keys of one bucket
keys_of : (b : Low) (w : ℕ) → 1 ≤ b.bits → b.bits ≤ w → b.low < 2 ^ b.bits → sum_below (λ i. cond (has_key b i) 1 0) (2 ^ w) ≡ 2 ^ (w - b.bits)
keys_of b w some most fits =
    let cut : (w - b.bits) + b.bits ≡ w = omega arith in
    let power : 2 ^ w ≡ 2 ^ (w - b.bits) * 2 ^ b.bits = ap (λ k. 2 ^ k) (sym cut) ∙ pow-add 2 (w - b.bits) b.bits in
    ap (sum_below (with_rest (2 ^ b.bits) b.low)) power ∙ in_blocks (2 ^ b.bits) b.low (2 ^ (w - b.bits)) fits

measured_at : (w : ℕ) → w ≡ 58 → (bs : List Low) → AllByRecursion IsBucket bs → measure_of bs ≡ sum_below (times bs) (2 ^ w)
measured_at w e [] h = sym (sum_below-zero (2 ^ w))
measured_at w e (b ∷ bs) h =
    let here : sum_below (λ i. cond (has_key b i) 1 0) (2 ^ w) ≡ 2 ^ (w - b.bits) = keys_of b w (h.0).some (omega (arith, (h.0).most)) (h.0).fits in
    let same : 2 ^ (w - b.bits) ≡ measure b = ap (λ k. 2 ^ (k - b.bits)) e in
    let rest : measure_of bs ≡ sum_below (times bs) (2 ^ w) = measured_at w e bs h.1 in
    let both : sum_below (times (b ∷ bs)) (2 ^ w) ≡ sum_below (λ i. cond (has_key b i) 1 0) (2 ^ w) + sum_below (times bs) (2 ^ w) = sum_below-add (λ i. cond (has_key b i) 1 0) (times bs) (2 ^ w) in
    ap (λ k. measure b + k) rest ∙ (ap (λ k. k + sum_below (times bs) (2 ^ w)) (sym (here ∙ same)) ∙ sym both)

bounded_at : (w : ℕ) → w ≡ 58 → (bs : List Low) → AllByRecursion IsBucket bs → ((key : ℕ) → key < 2 ^ w → times bs key ≤ 1) → measure_of bs ≤ 2 ^ w
bounded_at w e bs h apart = subst (λ m. m ≤ 2 ^ w) (sym (measured_at w e bs h)) (at_most (times bs) (2 ^ w) apart)

whole_at : (w : ℕ) → w ≡ 58 → (bs : List Low) → AllByRecursion IsBucket bs → ((key : ℕ) → key < 2 ^ w → times bs key ≤ 1) → measure_of bs ≡ 2 ^ w → (key : ℕ) → key < 2 ^ w → times bs key ≡ 1
whole_at w e bs h apart all key l = one_each (times bs) (2 ^ w) apart (sym (measured_at w e bs h) ∙ all) key l

pub bounded : (bs : List Low) → AllByRecursion IsBucket bs → CoverOnce bs → measure_of bs ≤ 2 ^ 58
bounded = bounded_at 58 refl

pub whole : (bs : List Low) → AllByRecursion IsBucket bs → CoverOnce bs → measure_of bs ≡ 2 ^ 58 → (key : ℕ) → key < 2 ^ 58 → times bs key ≡ 1
whole = whole_at 58 refl
