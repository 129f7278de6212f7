-- Loops over the nodes, in rising number: those below a number are done.
use Rattle.std.proofs.Common.{◌≡◌, ◌==◌, ◌+◌, ◌<◌, ◌≤◌, ℕ, Bool, true, false, cond, refl, sym, ap, ◌∙◌, arith, nat_lt, inl, inr, ◌⊎◌}
use Rattle.std.proofs.lemmas.Bool.{cases_lt}
use Rattle.std.proofs.lemmas.Bool.Decides.{nat_tests}
use Rattle.pass_model.specs.Nodes.{Node}
use Rattle.pass_model.specs.Loops.{UpTo}

pub loop-begins : (before after : ℕ → Node) → UpTo 0 before after before
loop-begins before after n = sym (ap (λ t. cond t (after n) (before n)) none)
  where
    none : nat_lt n 0 ≡ false
    none = grind (arith, nat_tests)

-- the next node is done, or there was nothing to do
pub loop-goes : (before after now next : ℕ → Node) (i : ℕ) → UpTo i before after now → ((n : ℕ) → next n ≡ cond (n == i) (after n) (now n)) → UpTo (i + 1) before after next
loop-goes before after now next i h e n = e n ∙ by_node (n == i) refl ∙ ap (λ t. cond t (after n) (before n)) (same n i)
  where
    same : (n i : ℕ) → cond (n == i) true (nat_lt n i) ≡ nat_lt n (i + 1)
    same n i = grind (arith, nat_tests)

    by_node : (t : Bool) → (n == i) ≡ t → cond (n == i) (after n) (now n) ≡ cond (cond (n == i) true (nat_lt n i)) (after n) (before n)
    by_node true f = ap (λ t. cond t (after n) (now n)) f ∙ sym (ap (λ t. cond (cond t true (nat_lt n i)) (after n) (before n)) f)
    by_node false f = ap (λ t. cond t (after n) (now n)) f ∙ h n ∙ sym (ap (λ t. cond (cond t true (nat_lt n i)) (after n) (before n)) f)

-- at the end all are done, if nothing is to be done behind
pub loop-ends : (before after now : ℕ → Node) (many : ℕ) → UpTo many before after now → ((n : ℕ) → many ≤ n → after n ≡ before n) → (n : ℕ) → now n ≡ after n
loop-ends before after now many h out n = h n ∙ by_place (cases_lt n many)
  where
    lt : n < many → nat_lt n many ≡ true
    lt p = grind (arith, nat_tests)

    ge : many ≤ n → nat_lt n many ≡ false
    ge p = grind (arith, nat_tests)

    by_place : (n < many) ⊎ (many ≤ n) → cond (nat_lt n many) (after n) (before n) ≡ after n
    by_place (inl p) = ap (λ t. cond t (after n) (before n)) (lt p)
    by_place (inr p) = ap (λ t. cond t (after n) (before n)) (ge p) ∙ sym (out n p)
