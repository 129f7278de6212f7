-- The first of three operations under way of which something holds.
use Rattle.std.proofs.Common.{◌≡◌, ◌<◌, ℕ, zero, suc, List, Option, Some, None, inl, inr, refl, sym, ap, ◌∙◌, subst, slice_get, arith}
use Rattle.std.proofs.lemmas.Bool.{cases_lt}
use Rattle.lane_calls.specs.declared.progress.UnderWay.{UnderWay}
use Rattle.lane_calls.specs.LaneValues.{IsPlace, OfFirst}
use Rattle.lane_tables.specs.Tables.{AreThree}

pub get-same : (us : List UnderWay) (k : ℕ) (x y : UnderWay) → slice_get us k ≡ Some x → slice_get us k ≡ Some y → x ≡ y
get-same us k x y a b = let e : ◌≡◌ {A = Option UnderWay} (Some x) (Some y) = sym a ∙ b in cc

-- there is one first
pub firsts-same : (P : UnderWay → Type 0) (us : List UnderWay) (x y : ℕ) → OfFirst P us x → OfFirst P us y → x ≡ y
firsts-same P us x y f g = elim (cases_lt f.at g.at) [
  | inl less ↦ absurd (g.first f.at f.operation less (f.place).found f.is)
  | inr more ↦ elim (cases_lt g.at f.at) [
    | inl less ↦ absurd (f.first g.at g.operation less (g.place).found g.is)
    | inr most ↦ (let same : f.at ≡ g.at = omega (arith, more, most) in
        let one = get-same us g.at f.operation g.operation (subst (λ (k : ℕ). slice_get us k ≡ Some f.operation) same (f.place).found) (g.place).found in
        sym (f.place).line_is ∙ ap (λ (u : UnderWay). u.line) one ∙ (g.place).line_is)
  ]
]

module _ (us : List UnderWay) (a b c : UnderWay) (t : AreThree us a b c) where
  pub get-first : slice_get us 0 ≡ Some a
  get-first = ap (λ (xs : List UnderWay). slice_get xs 0) t.are

  pub get-second : slice_get us 1 ≡ Some b
  get-second = ap (λ (xs : List UnderWay). slice_get xs 1) t.are

  pub get-third : slice_get us 2 ≡ Some c
  get-third = ap (λ (xs : List UnderWay). slice_get xs 2) t.are

  -- what is said of each of the three
  pub of-three : (P : UnderWay → Type 0) → P a → P b → P c → (at : ℕ) (u : UnderWay) → slice_get us at ≡ Some u → P u
  of-three P p q r zero u got = subst P (get-same us 0 a u get-first got) p
  of-three P p q r (suc zero) u got = subst P (get-same us 1 b u get-second got) q
  of-three P p q r (suc (suc zero)) u got = subst P (get-same us 2 c u get-third got) r
  of-three P p q r (suc (suc (suc k))) u got = let none : ◌≡◌ {A = Option UnderWay} None (Some u) = sym (ap (λ (xs : List UnderWay). slice_get xs (suc (suc (suc k)))) t.are) ∙ got in cc

  pub first-is : (P : UnderWay → Type 0) → P a → OfFirst P us 1
  first-is P p = record {
    at = 0;
    operation = a;
    place = record { found = get-first; line_is = t.first_line };
    is = p;
    first = λ k u less. absurd (omega (arith, less));
  }

  pub second-is : (P : UnderWay → Type 0) → (P a → ⊥) → P b → OfFirst P us 2
  second-is P off p = record {
    at = 1;
    operation = b;
    place = record { found = get-second; line_is = t.second_line };
    is = p;
    first = none;
  }
    where
      none : (k : ℕ) (u : UnderWay) → k < 1 → slice_get us k ≡ Some u → P u → ⊥
      none zero u less got is = off (subst P (get-same us 0 u a got get-first) is)
      none (suc k) u less got is = omega (arith, less)

  -- that of the third line is the third
  pub third-of : (at : ℕ) (u : UnderWay) → IsPlace 3 us at u → u ≡ c
  third-of at u p = of-three (λ (w : UnderWay). w.line ≡ 3 → w ≡ c) (λ e. absurd (let wrong : 1 ≡ 3 = sym t.first_line ∙ e in omega (arith, wrong))) (λ e. absurd (let wrong : 2 ≡ 3 = sym t.second_line ∙ e in omega (arith, wrong))) (λ e. refl) at u p.found p.line_is
