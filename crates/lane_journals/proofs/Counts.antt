-- Counting sets of nodes.
use Rattle.std.proofs.Common.{◌≡◌, ℕ, zero, suc, ◌+◌, ◌<◌, ◌≤◌, Bool, true, false, cond, refl, sym, subst, arith, inl, inr, ◌⊎◌, ltb}
use Rattle.std.proofs.lemmas.Bool.Decides.{nat_tests}
use Rattle.lane_journals.specs.Sets.{count_below, count, AtLeast, both, outside}

pub AtLeast-map : {k : ℕ} {P Q : ℕ → Type 0} → ((n : ℕ) → P n → Q n) → AtLeast k P → AtLeast k Q
AtLeast-map f a = (a.0, a.1, λ n h. f n (a.2 n h))

-- ---- counts of tests

one : Bool → ℕ
one t = cond t 1 0

-- each number of p is in q
pub count_below-subset : (p q : ℕ → Bool) (k : ℕ) → ((n : ℕ) → p n ≡ true → q n ≡ true) → count_below p k ≤ count_below q k
unfolding count_below
count_below-subset p q zero h = omega arith
count_below-subset p q (suc k) h = step (p k) (q k) (h k) (count_below-subset p q k h)
  where
    step : (a b : Bool) → (a ≡ true → b ≡ true) → count_below p k ≤ count_below q k → cond a 1 0 + count_below p k ≤ cond b 1 0 + count_below q k
    step true true g ih = omega arith
    step true false g ih = let no : false ≡ true = g refl in cc
    step false b g ih = omega arith

-- p is cut in two by q
pub split : (p q : ℕ → Bool) (k : ℕ) → count_below p k ≡ count_below (both p q) k + count_below (both p (outside q)) k
unfolding count_below
split p q zero = refl
split p q (suc k) = step (p k) (q k) _ _ _ (split p q k)
  where
    step : (a b : Bool) (x y z : ℕ) → x ≡ y + z → cond a 1 0 + x ≡ (cond (cond a b false) 1 0 + y) + (cond (cond a (cond b false true) false) 1 0 + z)
    step true true x y z e = omega arith
    step true false x y z e = omega arith
    step false b x y z e = omega arith

-- not all of p lies outside q
meets : (p q : ℕ → Bool) (k : ℕ) → count_below (outside q) k < count_below p k → (n : ℕ) × (n < k) × (p n ≡ true) × (q n ≡ true)
unfolding count_below
meets p q zero h = absurd (omega arith)
meets p q (suc k) h = step (p k) (q k) refl refl h (meets p q k)
  where
    up : (n : ℕ) × (n < k) × (p n ≡ true) × (q n ≡ true) → (n : ℕ) × (n < suc k) × (p n ≡ true) × (q n ≡ true)
    up x = (x.0, omega (arith, x.1), x.2, x.3)

    step : (a b : Bool) → p k ≡ a → q k ≡ b → cond (cond b false true) 1 0 + count_below (outside q) k < cond a 1 0 + count_below p k →
        (count_below (outside q) k < count_below p k → (n : ℕ) × (n < k) × (p n ≡ true) × (q n ≡ true)) →
        (n : ℕ) × (n < suc k) × (p n ≡ true) × (q n ≡ true)
    step true true ep eq g ih = (k, omega arith, ep, eq)
    step true false ep eq g ih = up (ih (omega arith))
    step false true ep eq g ih = up (ih (omega arith))
    step false false ep eq g ih = up (ih (omega arith))

-- a set with at least one node has one
pub some_member : (p : ℕ → Bool) (k : ℕ) → 1 ≤ count_below p k → (n : ℕ) × (n < k) × (p n ≡ true)
unfolding count_below
some_member p zero h = absurd (omega arith)
some_member p (suc k) h = step (p k) refl h (some_member p k)
  where
    step : (a : Bool) → p k ≡ a → 1 ≤ cond a 1 0 + count_below p k → (1 ≤ count_below p k → (n : ℕ) × (n < k) × (p n ≡ true)) → (n : ℕ) × (n < suc k) × (p n ≡ true)
    step true e h ih = (k, omega arith, e)
    step false e h ih = let x = ih (omega arith) in (x.0, omega (arith, x.1), x.2)

pub AtLeast-some : (k : ℕ) (P : ℕ → Type 0) → 1 ≤ k → AtLeast k P → (n : ℕ) × P n
unfolding count
AtLeast-some k P h a = let x = some_member a.0 32 (let c = a.1 in omega arith) in (x.0, a.2 x.0 x.2)

-- of k nodes of K, where fewer than k nodes of K lie outside P, one lies in P
pub one_inside : (k : ℕ) (K P : ℕ → Bool) (Q : ℕ → Type 0) → count (both K (outside P)) < k → AtLeast k Q → ((n : ℕ) → Q n → K n ≡ true) → (n : ℕ) × (P n ≡ true) × Q n
unfolding count
one_inside k K P Q few a known =
    let cut = split a.0 P 32 in
    let less = count_below-subset (both a.0 (outside P)) (both K (outside P)) 32 (λ n h. grow (a.0 n) (K n) (outside P n) h (λ e. known n (a.2 n e))) in
    let size = a.1 in
    let x = some_member (both a.0 P) 32 (omega arith) in
    (x.0, second (a.0 x.0) (P x.0) x.2, a.2 x.0 (first (a.0 x.0) (P x.0) x.2))
  where
    grow : (s t o : Bool) → cond s o false ≡ true → (s ≡ true → t ≡ true) → cond t o false ≡ true
    grow true t o h f = rw (f refl) h
    grow false t o h f = cc

    first : (s t : Bool) → cond s t false ≡ true → s ≡ true
    first true t h = refl
    first false t h = cc

    second : (s t : Bool) → cond s t false ≡ true → t ≡ true
    second true t h = h
    second false t h = cc

-- where each of the nodes has A or else B holds, all have A or B holds
choose_below : (set : ℕ → Bool) (A : ℕ → Type 0) (B : Type 0) (k : ℕ) → ((n : ℕ) → set n ≡ true → A n ⊎ B) → ((n : ℕ) → n < k → set n ≡ true → A n) ⊎ B
choose_below set A B zero f = inl (λ n h e. absurd (omega arith))
choose_below set A B (suc k) f = elim (choose_below set A B k f) [
  | inr b ↦ inr b
  | inl below ↦ here (set k) refl below
]
  where
    last : (m : ℕ) → m < suc k → (m ≡ k) ⊎ (m < k)
    last m h = grind arith

    here : (t : Bool) → set k ≡ t → ((n : ℕ) → n < k → set n ≡ true → A n) → ((n : ℕ) → n < suc k → set n ≡ true → A n) ⊎ B
    here true e below = elim (f k e) [
      | inr b ↦ inr b
      | inl a ↦ inl (λ n h s. elim (last n h) [ inl is ↦ subst (λ (i : ℕ). A i) (sym is) a | inr less ↦ below n less s ])
    ]
    here false e below = inl (λ n h s. elim (last n h) [ inl is ↦ (let z : set k ≡ true = subst (λ (i : ℕ). set i ≡ true) is s in cc) | inr less ↦ below n less s ])

under : ℕ → ℕ → Bool
under k n = cond (ltb n k) true false

count_under : (p : ℕ → Bool) (k j : ℕ) → k ≤ j → count_below (λ n. cond (p n) (ltb n j) false) k ≡ count_below p k
unfolding count_below
count_under p zero j h = refl
count_under p (suc k) j h = rw (count_under p k j (omega arith), lt k j h) (step (p k))
  where
    lt : (k j : ℕ) → suc k ≤ j → ltb k j ≡ true
    lt k j h = grind (arith, nat_tests)

    step : (t : Bool) → cond (cond t true false) 1 0 + count_below p k ≡ cond t 1 0 + count_below p k
    step true = refl
    step false = refl

pub AtLeast-choose : (k : ℕ) (A : ℕ → Type 0) (B : Type 0) → AtLeast k (λ n. A n ⊎ B) → AtLeast k A ⊎ B
unfolding count
AtLeast-choose k A B a = elim (choose_below a.0 A B 32 a.2) [
  | inr b ↦ inr b
  | inl all ↦ inl ((λ n. cond (a.0 n) (ltb n 32) false), rw (count_under a.0 32 32 (omega arith)) a.1, λ n h. all n (less n (a.0 n) h) (first n (a.0 n) h))
]
  where
    first : (n : ℕ) (t : Bool) → cond t (ltb n 32) false ≡ true → t ≡ true
    first n true h = refl
    first n false h = cc

    less : (n : ℕ) (t : Bool) → cond t (ltb n 32) false ≡ true → n < 32
    less n true h = grind (arith, nat_tests)
    less n false h = cc

pub count-subset : (p q : ℕ → Bool) → ((n : ℕ) → p n ≡ true → q n ≡ true) → count p ≤ count q
unfolding count
count-subset p q h = count_below-subset p q 32 h

pub both-map : (p q s : ℕ → Bool) → ((n : ℕ) → p n ≡ q n) → count (both p s) ≤ count (both q s)
both-map p q s h = count-subset (both p s) (both q s) (λ n e. rw (← h n) e)
