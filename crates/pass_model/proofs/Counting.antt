-- How many numbers a list has, and how many marks are up.
use Rattle.std.proofs.Common.{◌≡◌, ◌==◌, ◌||◌, ◌+◌, ◌<◌, ◌≤◌, ℕ, zero, suc, Bool, true, false, cond, List, [], ◌∷◌, length, take, slice_index_or, inl, inr, refl, sym, ap, ap₂, ◌∙◌, subst, arith, eqb, eqb-true, eq-eqb}
use Rattle.std.specs.List.{count_by, sum_by, list_any}
use Rattle.std.proofs.lemmas.List.Sums.{sum_by-cons}
use Rattle.std.proofs.lemmas.Bool.Decides.{nat_tests}
use mathlib.Core.Bool.{true≢false}
use Rattle.cluster_states.specs.declared.marks.Mark.{Mark}
use Rattle.cluster_states.specs.declared.marks.Mark.TheVariants.{Down}
use Rattle.cluster_states.specs.MarkTests.{is_up}
use Rattle.ideal_nodes.specs.Scores.{Has}
use Rattle.lane_journals.specs.Sets.{count_below}
use Rattle.lane_journals.proofs.Counts.{count_below-subset}
use Rattle.lane_rest.specs.Targets.{is_member}

abbrev bit : Bool → ℕ
bit t = cond t 1 0

-- ---- members

pub has-member : (ns : List ℕ) (n : ℕ) → Has n ns → is_member ns n ≡ true
has-member [] n h = absurd h
has-member (m ∷ ns) n (inl e) = ap (λ t. t || is_member ns n) (eq-eqb m n (sym e))
has-member (m ∷ ns) n (inr h) = by_test (m == n) (has-member ns n h)
  where
    by_test : (t : Bool) → is_member ns n ≡ true → (t || is_member ns n) ≡ true
    by_test true e = refl
    by_test false e = e

pub member-has : (ns : List ℕ) (n : ℕ) → is_member ns n ≡ true → Has n ns
member-has [] n e = absurd (true≢false (sym e))
member-has (m ∷ ns) n e = by_test (m == n) refl e (member-has ns n)
  where
    by_test : (t : Bool) → (m == n) ≡ t → (t || is_member ns n) ≡ true → (is_member ns n ≡ true → Has n ns) → Has n (m ∷ ns)
    by_test true f g ih = inl (sym (eqb-true m n f))
    by_test false f g ih = inr (ih g)

-- no number stands twice
abbrev pub IsDistinct : List ℕ → Type 0
IsDistinct [] = Unit {0}
IsDistinct (n ∷ ns) = (Has n ns → ⊥) × IsDistinct ns

-- one number more
more-with : (x : ℕ) (q : ℕ → Bool) (k : ℕ) → x < k → q x ≡ false → count_below q k + 1 ≤ count_below (λ m. (x == m) || q m) k
unfolding count_below
more-with x q zero less off = absurd (omega arith)
more-with x q (suc k) less off = by_test (x == k) refl (λ l. more-with x q k l off)
  where
    other : (x == k) ≡ false → x < k
    other e = grind (arith, nat_tests)

    subset : count_below q k ≤ count_below (λ m. (x == m) || q m) k
    subset = count_below-subset q (λ m. (x == m) || q m) k (λ n e. by_or (x == n) (q n) e)
      where
        by_or : (a b : Bool) → b ≡ true → (a || b) ≡ true
        by_or true b e = refl
        by_or false b e = e

    by_test : (t : Bool) → (x == k) ≡ t → (x < k → count_below q k + 1 ≤ count_below (λ m. (x == m) || q m) k) → (bit (q k) + count_below q k) + 1 ≤ bit ((x == k) || q k) + count_below (λ m. (x == m) || q m) k
    by_test true e more =
        let none : bit (q k) ≡ 0 = ap bit (subst (λ (i : ℕ). q i ≡ false) (eqb-true x k e) off) in
        let one : bit ((x == k) || q k) ≡ 1 = ap (λ (t : Bool). bit (t || q k)) e in
        let s = subset in omega (arith, none, one, s)
    by_test false e more =
        let same : bit ((x == k) || q k) ≡ bit (q k) = ap (λ (t : Bool). bit (t || q k)) e in
        let ih = more (other e) in omega (arith, same, ih)

pub members-count : (ns : List ℕ) (k : ℕ) → IsDistinct ns → ((n : ℕ) → Has n ns → n < k) → length ns ≤ count_below (is_member ns) k
members-count [] k d small = omega arith
members-count (x ∷ ns) k d small =
    let ih = members-count ns k d.1 (λ n h. small n (inr h)) in
    let one = more-with x (is_member ns) k (small x (inl refl)) (off (is_member ns x) refl) in omega (arith, ih, one)
  where
    off : (t : Bool) → is_member ns x ≡ t → t ≡ false
    off true e = absurd (d.0 (member-has ns x e))
    off false e = refl

-- not more than one number more
one-only : (x k : ℕ) → count_below (λ m. x == m) k ≤ 1
unfolding count_below
one-only x k = (at-most x k).0
  where
    at-most : (x k : ℕ) → (count_below (λ m. x == m) k ≤ 1) × (k ≤ x → count_below (λ m. x == m) k ≡ 0)
    at-most x zero = (omega arith, λ le. refl)
    at-most x (suc k) = by_test (x == k) refl (at-most x k)
      where
        by_test : (t : Bool) → (x == k) ≡ t → (count_below (λ m. x == m) k ≤ 1) × (k ≤ x → count_below (λ m. x == m) k ≡ 0)
            → (bit (x == k) + count_below (λ m. x == m) k ≤ 1) × (suc k ≤ x → bit (x == k) + count_below (λ m. x == m) k ≡ 0)
        by_test true e ih =
            let is : x ≡ k = eqb-true x k e in
            let one : bit (x == k) ≡ 1 = ap bit e in
            let none = ih.1 (omega (arith, is)) in (omega (arith, one, none), λ le. absurd (omega (arith, is, le)))
        by_test false e ih =
            let zero_is : bit (x == k) ≡ 0 = ap bit e in
            (let a = ih.0 in omega (arith, zero_is, a), λ le. let b = ih.1 (omega (arith, le)) in omega (arith, zero_is, b))

less-with : (p q : ℕ → Bool) (k : ℕ) → count_below (λ m. p m || q m) k ≤ count_below p k + count_below q k
unfolding count_below
less-with p q zero = omega arith
less-with p q (suc k) = step (p k) (q k) (less-with p q k)
  where
    step : (a b : Bool) → count_below (λ m. p m || q m) k ≤ count_below p k + count_below q k → cond (a || b) 1 0 + count_below (λ m. p m || q m) k ≤ (cond a 1 0 + count_below p k) + (cond b 1 0 + count_below q k)
    step true b ih = by_other b
      where
        by_other : (b : Bool) → 1 + count_below (λ m. p m || q m) k ≤ (1 + count_below p k) + (cond b 1 0 + count_below q k)
        by_other true = omega (arith, ih)
        by_other false = omega (arith, ih)
    step false true ih = omega (arith, ih)
    step false false ih = omega (arith, ih)

pub members-most : (ns : List ℕ) (k : ℕ) → count_below (is_member ns) k ≤ length ns
unfolding count_below
members-most [] k = none k
  where
    none : (k : ℕ) → count_below (λ n. false) k ≤ 0
    none zero = omega arith
    none (suc k) = let ih = none k in omega (arith, ih)
members-most (x ∷ ns) k = let a = less-with (λ m. x == m) (is_member ns) k in let b = one-only x k in let c = members-most ns k in omega (arith, a, b, c)

-- ---- the first of a list

pub take-has : (r : ℕ) (ns : List ℕ) (n : ℕ) → Has n (take r ns) → Has n ns
take-has zero ns n h = absurd h
take-has (suc r) [] n h = h
take-has (suc r) (m ∷ ns) n (inl e) = inl e
take-has (suc r) (m ∷ ns) n (inr h) = inr (take-has r ns n h)

pub take-distinct : (r : ℕ) (ns : List ℕ) → IsDistinct ns → IsDistinct (take r ns)
take-distinct zero ns d = tt
take-distinct (suc r) [] d = tt
take-distinct (suc r) (m ∷ ns) d = (λ h. d.0 (take-has r ns m h), take-distinct r ns d.1)

pub take-long : (a r : ℕ) (ns : List ℕ) → a ≤ r → a ≤ length ns → a ≤ length (take r ns)
take-long a zero ns low le = omega arith
take-long a (suc r) [] low le = le
take-long zero (suc r) (m ∷ ns) low le = omega arith
take-long (suc a) (suc r) (m ∷ ns) low le = let ih = take-long a r ns (omega (arith, low)) (omega (arith, le)) in omega (arith, ih)

-- ---- marks

shift : (q : ℕ → Bool) (k : ℕ) → count_below q (suc k) ≡ bit (q 0) + count_below (λ n. q (suc n)) k
unfolding count_below
shift q zero = refl
shift q (suc k) = let ih = shift q k in omega (arith, ih)

pub up-count : (xs : List Mark) (k : ℕ) → ((n : ℕ) → is_up (slice_index_or xs n Down) ≡ true → n < k) → count_by is_up xs ≤ count_below (λ n. is_up (slice_index_or xs n Down)) k
unfolding count_below
up-count [] k small = omega arith
up-count (x ∷ xs) (suc k) small =
    let ih = up-count xs k (λ n e. let l = small (suc n) e in omega (arith, l)) in
    let s = shift (λ n. is_up (slice_index_or (x ∷ xs) n Down)) k in
    let c : count_by is_up (x ∷ xs) ≡ bit (is_up x) + count_by is_up xs = sum_by-cons (λ y. bit (is_up y)) x xs in omega (arith, ih, s, c)
up-count (x ∷ xs) zero small =
    let ih = up-count xs zero (λ n e. let l = small (suc n) e in absurd (omega (arith, l))) in
    let c : count_by is_up (x ∷ xs) ≡ bit (is_up x) + count_by is_up xs = sum_by-cons (λ y. bit (is_up y)) x xs in
    let z : bit (is_up x) ≡ 0 = off (is_up x) refl in
    nothing (count_by is_up (x ∷ xs)) (count_by is_up xs) (bit (is_up x)) c z ih
  where
    off : (t : Bool) → is_up x ≡ t → bit t ≡ 0
    off true e = let l = small 0 e in absurd (omega (arith, l))
    off false e = refl

    nothing : (a b c : ℕ) → a ≡ c + b → c ≡ 0 → b ≤ count_below (λ n. is_up (slice_index_or xs n Down)) zero → a ≤ count_below (λ n. is_up (slice_index_or (x ∷ xs) n Down)) zero
    nothing a b c e f h = omega (arith, e, f, h)
