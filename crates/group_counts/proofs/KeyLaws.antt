-- Numbers and texts as keys.
use Rattle.std.proofs.Common.{◌≡◌, ℕ, ℤ, true, T, List, refl, sym, subst, ◌∙◌}
use Rattle.std.specs.Ordering.{int_cmp, nat_cmp, int_eq, eq_by_cmp, is_eq}
use Rattle.std.specs.declared.cmp.Ordering.{Ordering}
use Rattle.std.specs.declared.cmp.Ordering.TheVariants.{Less, Equal, Greater}
use Rattle.std.specs.Cmp.{eq_by_cmp_equiv, int_cmp_total}
use Rattle.std.specs.Cmp.Lexicographic.{slice_cmp, nat_list_cmp_total}
use Rattle.std.specs.FinMap.{int_cmp-IsAntisymmetric, nat_cmp-IsAntisymmetric, slice_cmp-IsAntisymmetric}
use Rattle.std.specs.Prelude.{bytes_eq}
use Rattle.std.proofs.lemmas.Map.Text.{is_eq-slice_cmp}

equal-of : (o : Ordering) → is_eq o ≡ true → o ≡ Equal
equal-of Less e = absurd (subst T (sym e) tt)
equal-of Equal e = refl
equal-of Greater e = absurd (subst T (sym e) tt)

pub same-number : (x y : ℤ) → eq_by_cmp int_cmp x y ≡ true → x ≡ y
same-number x y e = int_cmp-IsAntisymmetric x y (equal-of (int_cmp x y) e)

pub same-text : (x y : List ℕ) → eq_by_cmp (slice_cmp nat_cmp) x y ≡ true → x ≡ y
same-text x y e = slice_cmp-IsAntisymmetric nat_cmp-IsAntisymmetric x y (equal-of (slice_cmp nat_cmp x y) e)

pub text-test : (t q : List ℕ) → bytes_eq t q ≡ eq_by_cmp (slice_cmp nat_cmp) q t
text-test t q = sym ((eq_by_cmp_equiv nat_list_cmp_total).symm q t ∙ is_eq-slice_cmp t q)

pub number-test : (n q : ℤ) → int_eq n q ≡ eq_by_cmp int_cmp q n
number-test n q = (eq_by_cmp_equiv int_cmp_total).symm n q
