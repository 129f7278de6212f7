-- That formulas are data.
use Rattle.std.specs.Prelude.{◌≡◌, ℕ, ◌+◌, true, false, nat_eq}
use mathlib.Core.Bool.{true≢false}
use mathlib.Core.Path.{refl, ap, ap₂}
use base.Stored.{Gv, gnil, gnum, gcons, Coded}
use Rattle.conditions.specs.Formulas.{Formula, truth, falsity, claim, opposite, both, either}

abbrev number : Gv → ℕ
number gnil = 0
number (gnum n) = n
number (gcons a b) = 0

abbrev first : Gv → Gv
first gnil = gnil
first (gnum n) = gnil
first (gcons a b) = a

abbrev second : Gv → Gv
second gnil = gnil
second (gnum n) = gnil
second (gcons a b) = b

-- which kind of formula a value is of
abbrev kind : Gv → ℕ
kind gnil = 6
kind (gnum n) = n
kind (gcons a b) = 2 + number a

module _ {A : Type 0} (a : Coded A) where
  abbrev value : Formula A → Gv
  value truth = gnum 0
  value falsity = gnum 1
  value (claim x) = gcons (gnum 0) (a.code x)
  value (opposite x) = gcons (gnum 1) (value x)
  value (both x y) = gcons (gnum 2) (gcons (value x) (value y))
  value (either x y) = gcons (gnum 3) (gcons (value x) (value y))

  pub one_formula : (x y : Formula A) → value x ≡ value y → x ≡ y
  one_formula truth truth p = refl
  one_formula truth _ p = absurd (true≢false (ap (λ g. nat_eq (kind g) 0) p))
  one_formula falsity falsity p = refl
  one_formula falsity _ p = absurd (true≢false (ap (λ g. nat_eq (kind g) 1) p))
  one_formula (claim x) (claim y) p = ap claim (a.inj x y (ap second p))
  one_formula (claim x) _ p = absurd (true≢false (ap (λ g. nat_eq (kind g) 2) p))
  one_formula (opposite x) (opposite y) p = ap opposite (one_formula x y (ap second p))
  one_formula (opposite x) _ p = absurd (true≢false (ap (λ g. nat_eq (kind g) 3) p))
  one_formula (both x y) (both z w) p = ap₂ both (one_formula x z (ap (λ g. first (second g)) p)) (one_formula y w (ap (λ g. second (second g)) p))
  one_formula (both x y) _ p = absurd (true≢false (ap (λ g. nat_eq (kind g) 4) p))
  one_formula (either x y) (either z w) p = ap₂ either (one_formula x z (ap (λ g. first (second g)) p)) (one_formula y w (ap (λ g. second (second g)) p))
  one_formula (either x y) _ p = absurd (true≢false (ap (λ g. nat_eq (kind g) 5) p))

  abbrev pub formula_code : Coded (Formula A)
  formula_code = record { code = value; inj = one_formula }
