-- Laws of the order of values.
use Rattle.std.proofs.Common.{◌≡◌, refl, sym, ap, Option, Some, None, option_map, is_some}
use mathlib.Core.Bool.{true≢false}
use Rattle.std.specs.Option.{unwrap_or}
use Rattle.std.specs.Ordering.{ordering_reverse, is_eq, is_lt}
use Rattle.std.specs.Cmp.{int_cmp_total}
use Rattle.std.specs.Cmp.Lexicographic.{nat_list_cmp_total}
use Rattle.std.specs.FinMap.{int_cmp-IsAntisymmetric, slice_cmp-IsAntisymmetric, nat_cmp-IsAntisymmetric}
use Rattle.std.specs.declared.cmp.Ordering.{Ordering}
use Rattle.std.specs.declared.cmp.Ordering.TheVariants.{Less, Equal, Greater}
use Rattle.doc_types.specs.declared.values.FieldValue.{FieldValue}
use Rattle.doc_types.specs.declared.values.FieldValue.TheVariants.{Int, Text, Ints, Texts}
use Rattle.doc_types.specs.Values.{value_order}

same_order : (a b : Ordering) → Some a ≡ Some b → a ≡ b
same_order a b e = ap (λ o. unwrap_or o a) e

no_order : (b : Ordering) → ◌≡◌ {A = Option Ordering} None (Some b) → ⊥
no_order b e = true≢false (sym (ap is_some e))

less_is_not_equal : Less ≡ Equal → ⊥
less_is_not_equal e = true≢false (sym (ap is_eq e))

greater_is_not_equal : Greater ≡ Equal → ⊥
greater_is_not_equal e = true≢false (sym (ap is_eq e))

greater_is_not_less : Greater ≡ Less → ⊥
greater_is_not_less e = true≢false (sym (ap is_lt e))

pub same_value : (a b : FieldValue) → value_order a b ≡ Some Equal → a ≡ b
same_value (Int a) (Int b) e = ap Int (int_cmp-IsAntisymmetric a b (same_order _ _ e))
same_value (Int a) (Text b) e = absurd (less_is_not_equal (same_order _ _ e))
same_value (Text a) (Int b) e = absurd (greater_is_not_equal (same_order _ _ e))
same_value (Text a) (Text b) e = ap Text (slice_cmp-IsAntisymmetric nat_cmp-IsAntisymmetric a b (same_order _ _ e))
same_value (Int a) (Ints b) e = absurd (no_order _ e)
same_value (Int a) (Texts b) e = absurd (no_order _ e)
same_value (Text a) (Ints b) e = absurd (no_order _ e)
same_value (Text a) (Texts b) e = absurd (no_order _ e)
same_value (Ints a) b e = absurd (no_order _ e)
same_value (Texts a) b e = absurd (no_order _ e)

pub turned_order : (a b : FieldValue) → value_order b a ≡ option_map ordering_reverse (value_order a b)
turned_order (Int a) (Int b) = ap Some (int_cmp_total.antisymm b a)
turned_order (Int a) (Text b) = refl
turned_order (Text a) (Int b) = refl
turned_order (Text a) (Text b) = ap Some (nat_list_cmp_total.antisymm b a)
turned_order (Int a) (Ints b) = refl
turned_order (Int a) (Texts b) = refl
turned_order (Text a) (Ints b) = refl
turned_order (Text a) (Texts b) = refl
turned_order (Ints a) (Int b) = refl
turned_order (Ints a) (Text b) = refl
turned_order (Ints a) (Ints b) = refl
turned_order (Ints a) (Texts b) = refl
turned_order (Texts a) (Int b) = refl
turned_order (Texts a) (Text b) = refl
turned_order (Texts a) (Ints b) = refl
turned_order (Texts a) (Texts b) = refl

pub order_goes_on : (a b c : FieldValue) → value_order a b ≡ Some Less → value_order b c ≡ Some Less → value_order a c ≡ Some Less
order_goes_on (Int a) (Int b) (Int c) p q = ap Some (int_cmp_total.trans a b c (same_order _ _ p) (same_order _ _ q))
order_goes_on (Int a) (Int b) (Text c) p q = refl
order_goes_on (Int a) (Text b) (Int c) p q = absurd (greater_is_not_less (same_order _ _ q))
order_goes_on (Int a) (Text b) (Text c) p q = refl
order_goes_on (Text a) (Int b) c p q = absurd (greater_is_not_less (same_order _ _ p))
order_goes_on (Text a) (Text b) (Int c) p q = absurd (greater_is_not_less (same_order _ _ q))
order_goes_on (Text a) (Text b) (Text c) p q = ap Some (nat_list_cmp_total.trans a b c (same_order _ _ p) (same_order _ _ q))
order_goes_on (Int a) (Int b) (Ints c) p q = absurd (no_order _ q)
order_goes_on (Int a) (Int b) (Texts c) p q = absurd (no_order _ q)
order_goes_on (Int a) (Text b) (Ints c) p q = absurd (no_order _ q)
order_goes_on (Int a) (Text b) (Texts c) p q = absurd (no_order _ q)
order_goes_on (Text a) (Text b) (Ints c) p q = absurd (no_order _ q)
order_goes_on (Text a) (Text b) (Texts c) p q = absurd (no_order _ q)
order_goes_on (Int a) (Ints b) c p q = absurd (no_order _ p)
order_goes_on (Int a) (Texts b) c p q = absurd (no_order _ p)
order_goes_on (Text a) (Ints b) c p q = absurd (no_order _ p)
order_goes_on (Text a) (Texts b) c p q = absurd (no_order _ p)
order_goes_on (Ints a) b c p q = absurd (no_order _ p)
order_goes_on (Texts a) b c p q = absurd (no_order _ p)
