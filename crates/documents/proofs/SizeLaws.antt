-- When a size is a fault.
use Rattle.std.proofs.Common.{◌≡◌, ℕ, ◌<◌, ◌≤◌, true, false, sym, ap, ◌∙◌, cond, nat_lt, arith, Some, None}
use Rattle.std.proofs.lemmas.Bool.Decides.{nat_tests}
use Rattle.documents.specs.declared.fault.DocumentFault.TheVariants.{TooLarge}
use Rattle.documents.specs.Faults.{size_fault}
use Rattle.documents.specs.Fields.{FieldMap}
use Rattle.documents.specs.Sizes.{largest, size_of}

over : (k : ℕ) → largest < k → nat_lt largest k ≡ true
over k lt = grind (arith, nat_tests)

under : (k : ℕ) → k ≤ largest → nat_lt largest k ≡ false
under k le = grind (arith, nat_tests)

pub too_large : (m : FieldMap) (n : ℕ) → n ≡ size_of m → largest < n → size_fault m ≡ Some (TooLarge n)
too_large m n is lt =
    let big : nat_lt largest (size_of m) ≡ true = over _ (rw (← is) lt) in
    ap (λ b. cond b (Some (TooLarge (size_of m))) None) big ∙ ap (λ k. Some (TooLarge k)) (sym is)

pub small_enough : (m : FieldMap) (n : ℕ) → n ≡ size_of m → n ≤ largest → size_fault m ≡ None
small_enough m n is le =
    let few : nat_lt largest (size_of m) ≡ false = under _ (rw (← is) le) in
    ap (λ b. cond b (Some (TooLarge (size_of m))) None) few
