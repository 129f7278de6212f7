-- Lists in a strict order, and the order of slots.
use Rattle.std.proofs.Common.{◌≡◌, ◌≢◌, ℕ, ◌<◌, ◌≤◌, Bool, true, false, List, [], ◌∷◌, ◌++◌, length, get_or, refl, sym, ap, ap₂, subst, arith, rules, inl, inr}
use Rattle.std.specs.List.{All, AllByRecursion, AllWithin}
use Rattle.std.specs.List.Sorted.{IsStrictlySortedBy, IsNonDecreasingBy, IsPartitionedBy}
use Rattle.std.specs.Cmp.{IsTotalOrder}
use Rattle.std.specs.Cmp.Lexicographic.{nat_list_cmp_total}
use Rattle.std.specs.Ordering.{nat_cmp, is_lt, ordering_then}
use Rattle.std.specs.declared.cmp.Ordering.{Ordering}
use Rattle.std.specs.declared.cmp.Ordering.TheVariants.{Less, Equal, Greater}
use Rattle.std.specs.FinMap.{slice_cmp-IsAntisymmetric, nat_cmp-IsAntisymmetric}
use Rattle.std.proofs.lemmas.Bool.{cases_order, ltb-true, ltb-false}
use Rattle.std.proofs.lemmas.Cmp.{nat_cmp_total, then_total, on_total}
use Rattle.std.proofs.lemmas.List.Elements.{All-head, All-tail, All-cons}
use Rattle.std.proofs.lemmas.List.Sorted.{IsPartitionedBy-ltb}
use Rattle.std.proofs.lemmas.Map.Keys.{sorted_tail, Less-from_sorted}
use Rattle.std.proofs.lemmas.Map.Views.{All-after_first}
use Rattle.entry_rows.specs.declared.slots.Slot.{Slot}
use Rattle.documents.specs.EntryCodes.{id_cmp}
use Rattle.entry_rows.specs.Order.{mark, mark_cmp, slot_cmp, is_below, is_low}

-- ---- lists in any strict order

by_recursion : {K : Type 0} (P : K → Type 0) (xs : List K) → All P xs → AllByRecursion P xs
by_recursion P [] h = tt
by_recursion P (x ∷ xs) h = (All-head P x xs h, by_recursion P xs (All-tail P x xs h))

all_more : {K : Type 0} (P : K → Type 0) (xs ys : List K) (s : K) → All P (xs ++ ys) → P s → All P (xs ++ s ∷ ys)
all_more P [] ys s h p = All-cons P s ys p h
all_more P (x ∷ xs) ys s h p = All-cons P x (xs ++ s ∷ ys) (All-head P x (xs ++ ys) h) (all_more P xs ys s (All-tail P x (xs ++ ys) h) p)

all_instead : {K : Type 0} (P : K → Type 0) (xs ys : List K) (r s : K) → All P (xs ++ r ∷ ys) → (P r → P s) → All P (xs ++ s ∷ ys)
all_instead P [] ys r s h p = All-cons P s ys (p (All-head P r ys h)) (All-tail P r ys h)
all_instead P (x ∷ xs) ys r s h p = All-cons P x (xs ++ s ∷ ys) (All-head P x (xs ++ r ∷ ys) h) (all_instead P xs ys r s (All-tail P x (xs ++ r ∷ ys) h) p)

module _ {K : Type 0} (R : K → K → Ordering) where
  pub rising_cons : (x : K) (xs : List K) → All (λ y. R x y ≡ Less) xs → IsStrictlySortedBy R xs → IsStrictlySortedBy R (x ∷ xs)
  unfolding IsStrictlySortedBy
  rising_cons x xs h s = (by_recursion (λ y. R x y ≡ Less) xs h, s)

  pub rising_none : IsStrictlySortedBy R []
  unfolding IsStrictlySortedBy
  rising_none = tt

  pub rising_one : (x : K) → IsStrictlySortedBy R (x ∷ [])
  unfolding IsStrictlySortedBy
  rising_one x = (tt, tt)

  -- one more between those below and those above
  pub rising_more : (xs ys : List K) (s : K) → IsStrictlySortedBy R (xs ++ ys) → All (λ r. R r s ≡ Less) xs → All (λ r. R s r ≡ Less) ys → IsStrictlySortedBy R (xs ++ s ∷ ys)
  rising_more [] ys s sorted before behind = rising_cons s ys behind sorted
  rising_more (x ∷ xs) ys s sorted before behind =
      rising_cons x (xs ++ s ∷ ys)
      (all_more (λ y. R x y ≡ Less) xs ys s (All-after_first R x (xs ++ ys) sorted) (All-head (λ r. R r s ≡ Less) x xs before))
      (rising_more xs ys s (sorted_tail R x (xs ++ ys) sorted) (All-tail (λ r. R r s ≡ Less) x xs before) behind)

  -- another one in the place of its equal
  pub rising_instead : (xs ys : List K) (r s : K) → ((x : K) → R x r ≡ Less → R x s ≡ Less) → ((x : K) → R r x ≡ Less → R s x ≡ Less) → IsStrictlySortedBy R (xs ++ r ∷ ys) → IsStrictlySortedBy R (xs ++ s ∷ ys)
  rising_instead [] ys r s to from sorted = rising_cons s ys (λ k d lt. from _ (All-after_first R r ys sorted k d lt)) (sorted_tail R r ys sorted)
  rising_instead (x ∷ xs) ys r s to from sorted =
      rising_cons x (xs ++ s ∷ ys) (all_instead (λ y. R x y ≡ Less) xs ys r s (All-after_first R x (xs ++ r ∷ ys) sorted) (to x))
      (rising_instead xs ys r s to from (sorted_tail R x (xs ++ r ∷ ys) sorted))

-- ---- the order of slots

pub marks_total : IsTotalOrder mark_cmp
marks_total = then_total (on_total (λ m. m.0) nat_cmp_total) (on_total (λ m. m.1) nat_list_cmp_total)

pub slots_total : IsTotalOrder slot_cmp
slots_total = on_total mark marks_total

-- an answer of the order is one
pub not_less : (o : Ordering) → o ≡ Less → o ≡ Equal → ⊥
not_less Less e f = cc
not_less Equal e f = cc
not_less Greater e f = cc

pub lt_less : (o : Ordering) → is_lt o ≡ true → o ≡ Less
lt_less Less e = refl
lt_less Equal e = cc
lt_less Greater e = cc

pub less_lt : (o : Ordering) → o ≡ Less → is_lt o ≡ true
less_lt o e = ap is_lt e

pub true_false : (b : Bool) → b ≡ true → b ≡ false → ⊥
true_false true p q = cc
true_false false p q = cc

-- what is below has no greater path
then_le : (p q : ℕ) (o : Ordering) → ordering_then (nat_cmp p q) o ≡ Less → p ≤ q
then_le p q o e = by_path (nat_cmp p q) refl e
  where
    by_path : (r : Ordering) → nat_cmp p q ≡ r → ordering_then r o ≡ Less → p ≤ q
    by_path Less is e = search rules
    by_path Equal is e = search rules
    by_path Greater is e = cc

pub paths_rise : (slots : List Slot) → IsStrictlySortedBy slot_cmp slots → IsNonDecreasingBy (λ s. s.path) slots
paths_rise slots sorted i j d le lt = elim (cases_order i j) [
  | inl e ↦ omega (arith, ap (λ k. (get_or slots k d).path) e)
  | inr o ↦ elim o [
    | inl below ↦ then_le _ _ _ (Less-from_sorted slot_cmp slots i j d sorted below lt)
    | inr past ↦ absurd (omega arith)
  ]
]

-- those below a mark come first
pub parted : (path : ℕ) (id : List ℕ) (slots : List Slot) → IsStrictlySortedBy slot_cmp slots → IsPartitionedBy (is_below path id) slots
parted path id slots sorted i j d le lt below = elim (cases_order i j) [
  | inl e ↦ subst (λ k. is_below path id (get_or slots k d) ≡ true) (sym e) below
  | inr o ↦ elim o [
    | inl less ↦ less_lt _ (marks_total.trans (mark (get_or slots i d)) (mark (get_or slots j d)) (path, id) (Less-from_sorted slot_cmp slots i j d sorted less lt) (lt_less _ below))
    | inr past ↦ absurd (omega arith)
  ]
]

-- those of a lower path come first
pub low_parted : (path : ℕ) (slots : List Slot) → IsStrictlySortedBy slot_cmp slots → IsPartitionedBy (is_low path) slots
low_parted path slots sorted = IsPartitionedBy-ltb (λ s. s.path) slots path (paths_rise slots sorted)

less_below : (p q : ℕ) → nat_cmp p q ≡ Less → p < q
less_below p q e = search rules

greater_above : (p q : ℕ) → nat_cmp p q ≡ Greater → q < p
greater_above p q e = search rules

-- a slot of a lower path is below the path with any id, and one of a higher path is not
low_below : (path : ℕ) (id : List ℕ) (s : Slot) → s.path < path → is_below path id s ≡ true
low_below path id s low = by_path (nat_cmp s.path path) refl
  where
    by_path : (r : Ordering) → nat_cmp s.path path ≡ r → is_lt (ordering_then r (id_cmp s.entry.id id)) ≡ true
    by_path Less is = refl
    by_path Equal is = absurd (omega (arith, nat_cmp-IsAntisymmetric s.path path is))
    by_path Greater is = absurd (omega (arith, greater_above s.path path is))

high_above : (path : ℕ) (id : List ℕ) (s : Slot) → path < s.path → is_below path id s ≡ false
high_above path id s high = by_path (nat_cmp s.path path) refl
  where
    by_path : (r : Ordering) → nat_cmp s.path path ≡ r → is_lt (ordering_then r (id_cmp s.entry.id id)) ≡ false
    by_path Less is = absurd (omega (arith, less_below s.path path is))
    by_path Equal is = absurd (omega (arith, nat_cmp-IsAntisymmetric s.path path is))
    by_path Greater is = refl

-- where the first slot of no lower path has another path, it is also the first that is not below the path with any id
module _ (slots : List Slot) (path : ℕ) (id : List ℕ) (at : ℕ) (sorted : IsStrictlySortedBy slot_cmp slots) where
  pub lower_before : AllWithin (λ s. is_low path s ≡ true) slots 0 at → AllWithin (λ s. is_below path id s ≡ true) slots 0 at
  lower_before before k d low high = low_below path id (get_or slots k d) (ltb-true _ _ (before k d low high))

  pub higher_from : AllWithin (λ s. is_low path s ≡ false) slots at (length slots) → (at < length slots → (d : Slot) → (get_or slots at d).path ≢ path)
      → AllWithin (λ s. is_below path id s ≡ false) slots at (length slots)
  higher_from from other k d low high =
      let within : at < length slots = omega arith in
      let first = ltb-false _ _ (from at d (omega arith) within) in
      high_above path id (get_or slots k d) (omega (arith, paths_rise slots sorted at k d low high, first, other within d))

-- slots of one mark are of one document
pub equal_mark : (a b : Slot) → slot_cmp a b ≡ Equal → mark a ≡ mark b
equal_mark a b e = by_path (nat_cmp a.path b.path) refl e
  where
    by_path : (r : Ordering) → nat_cmp a.path b.path ≡ r → ordering_then r (id_cmp a.entry.id b.entry.id) ≡ Equal → mark a ≡ mark b
    by_path Less is e = cc
    by_path Equal is e = ap₂ (λ p i. (p, i)) (nat_cmp-IsAntisymmetric a.path b.path is) (slice_cmp-IsAntisymmetric nat_cmp-IsAntisymmetric a.entry.id b.entry.id e)
    by_path Greater is e = cc
