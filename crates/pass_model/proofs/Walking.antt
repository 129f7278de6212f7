-- Nodes that are told one after the other, and rows that are gone over one after the other.
use Rattle.std.proofs.Common.{◌≡◌, ◌==◌, ◌<◌, ◌≤◌, ℕ, zero, suc, Bool, true, false, cond, nat_lt, List, [], ◌∷◌, Option, Some, None, slice_get, slice_set, refl, sym, ap, ◌∙◌, eqb-true, ◌⊎◌, inl, inr}
use Rattle.std.proofs.lemmas.Bool.{cases_lt}
use Rattle.pass_model.specs.Nodes.{Node}
use Rattle.pass_model.specs.Rows.{Row}
use Rattle.pass_model.specs.Settling.{Place}
use Rattle.pass_model.specs.Passes.{World, each_row}
use Rattle.proof_basics.proofs.Numbers.{lt-to, ge-to}
use Rattle.pass_model.proofs.Numbers.{lt-suc, lt-same, lt-zero}

-- ---- nodes

-- the nodes from a number on are still to be told
abbrev pub from_node : ℕ → (ℕ → Node → Node) → (ℕ → Node) → ℕ → Node
from_node k f ns n = cond (nat_lt n k) (ns n) (f n (ns n))

-- one of them is told
abbrev pub tell_one : ℕ → (ℕ → Node → Node) → (ℕ → Node) → ℕ → Node
tell_one k f ns n = cond (n == k) (f n (ns n)) (ns n)

pub from-first : (f : ℕ → Node → Node) (ns : ℕ → Node) → from_node 0 f ns ≡ (λ n. f n (ns n))
from-first f ns = λ i n. at n i
  where
    at : (n : ℕ) → from_node 0 f ns n ≡ f n (ns n)
    at n = ap (λ t. cond t (ns n) (f n (ns n))) (lt-zero n)

pub from-told : (k : ℕ) (f : ℕ → Node → Node) (ns : ℕ → Node) → from_node k f ns ≡ from_node (suc k) f (tell_one k f ns)
from-told k f ns = λ i n. by_tests (f n) (ns n) (nat_lt n k) (n == k) (nat_lt n (suc k)) (lt-suc n k) (lt-same n k) i
  where
    by_tests : (g : Node → Node) (x : Node) (a b c : Bool) → c ≡ cond b true a → (b ≡ true → a ≡ false) → cond a x (g x) ≡ cond c (cond b (g x) x) (g (cond b (g x) x))
    by_tests g x true true c e h = let bad : true ≡ false = h refl in cc
    by_tests g x true false c e h = sym (ap (λ t. cond t x (g x)) e)
    by_tests g x false true c e h = sym (ap (λ t. cond t (g x) (g (g x))) e)
    by_tests g x false false c e h = sym (ap (λ t. cond t x (g x)) e)

-- there is nothing to tell it
pub from-skipped : (k : ℕ) (f : ℕ → Node → Node) (ns : ℕ → Node) → ((x : Node) → f k x ≡ x) → from_node k f ns ≡ from_node (suc k) f ns
from-skipped k f ns same = λ i n. by_tests (f n (ns n)) (ns n) (nat_lt n k) (n == k) (nat_lt n (suc k)) (lt-suc n k) (λ e. own n e) i
  where
    own : (n : ℕ) → (n == k) ≡ true → f n (ns n) ≡ ns n
    own n e = let is : n ≡ k = eqb-true n k e in ap (λ m. f m (ns n)) is ∙ same (ns n)

    by_tests : (y x : Node) (a b c : Bool) → c ≡ cond b true a → (b ≡ true → y ≡ x) → cond a x y ≡ cond c x y
    by_tests y x true true c e h = sym (ap (λ t. cond t x y) e)
    by_tests y x true false c e h = sym (ap (λ t. cond t x y) e)
    by_tests y x false true c e h = h refl ∙ sym (ap (λ t. cond t x y) e)
    by_tests y x false false c e h = sym (ap (λ t. cond t x y) e)

-- nobody is told anything
pub from-same : (k : ℕ) (f : ℕ → Node → Node) (ns : ℕ → Node) → ((n : ℕ) (x : Node) → f n x ≡ x) → from_node k f ns ≡ ns
from-same k f ns same = λ i n. by_test (nat_lt n k) (ns n) (f n (ns n)) (same n (ns n)) i
  where
    by_test : (t : Bool) (x y : Node) → y ≡ x → cond t x y ≡ x
    by_test true x y e = refl
    by_test false x y e = e

-- all are told
pub from-end : (k : ℕ) (f : ℕ → Node → Node) (ns : ℕ → Node) → ((n : ℕ) → k ≤ n → (x : Node) → f n x ≡ x) → from_node k f ns ≡ ns
from-end k f ns out = λ i n. by_place n (cases_lt n k) i
  where
    by_place : (n : ℕ) → (n < k) ⊎ (k ≤ n) → from_node k f ns n ≡ ns n
    by_place n (inl p) = ap (λ t. cond t (ns n) (f n (ns n))) (lt-to n k p)
    by_place n (inr p) = ap (λ t. cond t (ns n) (f n (ns n))) (ge-to n k p) ∙ out n p (ns n)

-- ---- rows

-- a row that stays as it is
abbrev pub behind : Row → World → World
behind r w = record { nodes = w.nodes; rows = r ∷ w.rows }

-- the rows from a place on are still to be gone over
abbrev pub each_from : (Place → Place) → ℕ → (ℕ → Node) → List Row → World
each_from f zero ns rows = each_row f ns rows
each_from f (suc at) ns [] = record { nodes = ns; rows = [] }
each_from f (suc at) ns (r ∷ rs) = behind r (each_from f at ns rs)

pub same-row : (r q : Row) → ◌≡◌ {A = Option Row} (Some r) (Some q) → r ≡ q
same-row r q e = cc

-- one row more, of which that is what is made
abbrev pub goes_from : (Place → Place) → ℕ → Place → List Row → World
goes_from f at y rows = each_from f (suc at) y.nodes (slice_set rows at y.row)

pub each-next : (f : Place → Place) (at : ℕ) (ns : ℕ → Node) (rows : List Row) (row : Row) → slice_get rows at ≡ Some row → each_from f at ns rows ≡ goes_from f at (f (record { nodes = ns; row = row })) rows
each-next f zero ns [] row e = cc
each-next f zero ns (r ∷ rs) row e = ap (λ (q : Row). each_row f ns (q ∷ rs)) (same-row r row e)
each-next f (suc at) ns [] row e = cc
each-next f (suc at) ns (r ∷ rs) row e = ap (behind r) (each-next f at ns rs row e)

pub each-end : (f : Place → Place) (at : ℕ) (ns : ℕ → Node) (rows : List Row) → slice_get rows at ≡ None → each_from f at ns rows ≡ record { nodes = ns; rows = rows }
each-end f zero ns [] h = refl
each-end f zero ns (r ∷ rs) h = cc
each-end f (suc at) ns [] h = refl
each-end f (suc at) ns (r ∷ rs) h = ap (behind r) (each-end f at ns rs h)
