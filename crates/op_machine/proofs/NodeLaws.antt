-- The least node of a set, and how many nodes it has.
use Rattle.std.proofs.Common.{◌≡◌, ℕ, zero, suc, ◌+◌, ◌<◌, ◌≤◌, Bool, true, false, cond, ◌&&◌, nat_lt, refl, sym, ap, ap₂, ◌∙◌, arith, None, Some, inl, inr}
use Rattle.std.proofs.lemmas.Bool.{cases_order}
use Rattle.std.proofs.lemmas.Bool.Decides.{nat_tests}
use Rattle.node_sets.specs.Members.{has_node, size_below, size_of}
use Rattle.op_machine.specs.Nodes.{first_from, first_node, count_below, count_nodes}

-- ---- the first number that passes a test

first_from-none : (k n : ℕ) (p : ℕ → Bool) → ((j : ℕ) → n ≤ j → j < n + k → p j ≡ false) → first_from k n p ≡ None
unfolding first_from
first_from-none zero n p h = refl
first_from-none (suc k) n p h = rw (h n (omega arith) (omega arith)) (first_from-none k (n + 1) p (λ j low high. h j (omega arith) (omega arith)))

first_from-found : (k n m : ℕ) (p : ℕ → Bool) → n ≤ m → m < n + k → p m ≡ true → ((j : ℕ) → n ≤ j → j < m → p j ≡ false) → first_from k n p ≡ Some m
unfolding first_from
first_from-found zero n m p low high here before = absurd (omega arith)
first_from-found (suc k) n m p low high here before = elim (cases_order n m) [
  | inl same ↦ rw (ap p same ∙ here) (ap Some same)
  | inr other ↦ elim other [
    | inl less ↦ rw (before n (omega arith) less) (first_from-found k (n + 1) m p (omega arith) (omega arith) here (λ j l h. before j (omega arith) h))
    | inr more ↦ absurd (omega arith)
  ]
]

-- what is found passes the test, and nothing before it does
pub record IsLeast (p : ℕ → Bool) (n end m : ℕ) : Type 0 where
  pub low : n ≤ m
  pub within : m < end
  pub here : p m ≡ true
  pub before : (j : ℕ) → n ≤ j → j < m → p j ≡ false

first_from-least : (k n m : ℕ) (p : ℕ → Bool) → first_from k n p ≡ Some m → IsLeast p n (n + k) m
unfolding first_from
first_from-least zero n m p e = absurd (cc)
first_from-least (suc k) n m p e = by (p n) refl (first_from-least k (n + 1) m p) e
  where
    by : (t : Bool) → p n ≡ t → (first_from k (n + 1) p ≡ Some m → IsLeast p (n + 1) (n + 1 + k) m) → cond t (Some n) (first_from k (n + 1) p) ≡ Some m → IsLeast p n (n + suc k) m
    by true here rest e =
        let same : n ≡ m = cc in
        record { low = omega arith; within = omega arith; here = ap p (sym same) ∙ here; before = λ j l h. absurd (omega arith) }
    by false gone rest e =
        let r = rest e in
        record {
          low = omega (arith, r.low);
          within = omega (arith, r.within);
          here = r.here;
          before = λ j l h. elim (cases_order j n) [
            | inl same ↦ ap p same ∙ gone
            | inr other ↦ elim other [ inl less ↦ absurd (omega arith) | inr more ↦ r.before j (omega arith) h ]
          ];
        }

first_from-all : (k n : ℕ) (p : ℕ → Bool) → first_from k n p ≡ None → (j : ℕ) → n ≤ j → j < n + k → p j ≡ false
unfolding first_from
first_from-all zero n p e j low high = absurd (omega arith)
first_from-all (suc k) n p e j low high = by (p n) refl (first_from-all k (n + 1) p) e
  where
    by : (t : Bool) → p n ≡ t → (first_from k (n + 1) p ≡ None → (i : ℕ) → n + 1 ≤ i → i < n + 1 + k → p i ≡ false) → cond t (Some n) (first_from k (n + 1) p) ≡ None → p j ≡ false
    by true here rest e = absurd (cc)
    by false gone rest e = elim (cases_order j n) [
      | inl same ↦ ap p same ∙ gone
      | inr other ↦ elim other [ inl less ↦ absurd (omega arith) | inr more ↦ rest e j (omega arith) (omega arith) ]
    ]

pub first_node-least : (p : ℕ → Bool) (m : ℕ) → first_node p ≡ Some m → IsLeast p 0 32 m
unfolding first_node
first_node-least p m e = first_from-least 32 0 m p e

pub first_node-all : (p : ℕ → Bool) → first_node p ≡ None → (j : ℕ) → j < 32 → p j ≡ false
unfolding first_node
first_node-all p e j high = first_from-all 32 0 p e j (omega arith) (omega arith)

-- ---- members of a set

and_first : (a b : Bool) → (a && b) ≡ true → a ≡ true
and_first true b e = refl
and_first false b e = e

below_32 : (n : ℕ) → nat_lt n 32 ≡ true → n < 32
below_32 n e = grind (arith, nat_tests)

small : (set n : ℕ) → has_node set n ≡ true → n < 32
unfolding has_node
small set n h = below_32 n (and_first _ _ h)

below_none : (set k : ℕ) → size_below set k ≡ 0 → (j : ℕ) → j < k → has_node set j ≡ false
unfolding size_below
below_none set zero e j less = absurd (omega arith)
below_none set (suc k) e j less = by (has_node set k) refl e (below_none set k)
  where
    by : (t : Bool) → has_node set k ≡ t → size_below set k + cond t 1 0 ≡ 0 → (size_below set k ≡ 0 → (i : ℕ) → i < k → has_node set i ≡ false) → has_node set j ≡ false
    by true here e rest = absurd (omega arith)
    by false gone e rest = elim (cases_order j k) [
      | inl same ↦ ap (has_node set) same ∙ gone
      | inr other ↦ elim other [ inl before ↦ rest (omega arith) j before | inr more ↦ absurd (omega arith) ]
    ]

size_below-zero : (set k : ℕ) → ((j : ℕ) → j < k → has_node set j ≡ false) → size_below set k ≡ 0
unfolding size_below
size_below-zero set zero h = refl
size_below-zero set (suc k) h = rw (h k (omega arith)) (let rest : size_below set k ≡ 0 = size_below-zero set k (λ j less. h j (omega arith)) in omega arith)

pub size_of-zero : (set : ℕ) → ((j : ℕ) → j < 32 → has_node set j ≡ false) → size_of set ≡ 0
unfolding size_of
size_of-zero set h = size_below-zero set 32 h

pub first_is : (set n : ℕ) → has_node set n ≡ true → size_below set n ≡ 0 → first_node (has_node set) ≡ Some n
unfolding first_node
first_is set n member place = first_from-found 32 0 n (has_node set) (omega arith) (omega (arith, small set n member)) member (λ j low less. below_none set n place j less)

pub none_is : (set : ℕ) → size_of set ≡ 0 → first_node (has_node set) ≡ None
unfolding first_node size_of
none_is set e = first_from-none 32 0 (has_node set) (λ j low high. below_none set 32 e j (omega arith))

size_below-count : (set : ℕ) (p : ℕ → Bool) → ((n : ℕ) → has_node set n ≡ p n) → (k : ℕ) → size_below set k ≡ count_below p k
unfolding size_below count_below
size_below-count set p same zero = refl
size_below-count set p same (suc k) = ap₂ (λ a b. a + cond b 1 0) (size_below-count set p same k) (same k)

pub size_of-count : (set : ℕ) (p : ℕ → Bool) → ((n : ℕ) → has_node set n ≡ p n) → size_of set ≡ count_nodes p
unfolding size_of count_nodes
size_of-count set p same = size_below-count set p same 32

count_below-most : (p : ℕ → Bool) (k : ℕ) → count_below p k ≤ k
unfolding count_below
count_below-most p zero = omega arith
count_below-most p (suc k) = by (p k) (count_below-most p k)
  where
    by : (t : Bool) → count_below p k ≤ k → count_below p k + cond t 1 0 ≤ suc k
    by true h = omega arith
    by false h = omega arith

pub count_nodes-most : (p : ℕ → Bool) → count_nodes p ≤ 32
unfolding count_nodes
count_nodes-most p = count_below-most p 32
