-- Maps with and without entries.
use Rattle.std.proofs.Common.{◌≡◌, ◌==◌, ℕ, ◌+◌, zero, suc, ◌<◌, Bool, true, false, not, cond, List, [], ◌∷◌, length, nat_lt, refl, sym, ap, ◌∙◌, arith, is_some}
use Rattle.std.specs.FinMap as fin
use Rattle.std.proofs.lemmas.Bool.Decides.{nat_tests}
use Rattle.std.specs.Cmp.Lexicographic.{nat_list_cmp_total}
use mathlib.Core.Bool.{true≢false}
use Rattle.doc_types.specs.SchemaCodes.{name_cmp}

no_len : {X : Type 0} (m : fin.FinMap name_cmp X) → (n : ℕ) → fin.len m ≡ n → n ≡ 0 → (q : List ℕ) → fin.contains_key m q ≡ false
no_len m n e z q = ap (λ k. fin.contains_key k q) (fin.empty_of_len m (e ∙ z)) ∙ ap is_some (fin.get-empty name_cmp q)

longer : (b : Bool) (n : ℕ) → (b ≡ true → 0 < n) → nat_lt 0 (cond b n (n + 1)) ≡ true
longer true n h = let p : 0 < n = h refl in grind (arith, nat_tests, p)
longer false n h = grind (arith, nat_tests)

has_entry : {X : Type 0} (m : fin.FinMap name_cmp X) (q : List ℕ) → fin.contains_key m q ≡ true → 0 < fin.len m
has_entry m q h = by (fin.len m) refl
  where
    by : (n : ℕ) → fin.len m ≡ n → 0 < n
    by zero e = absurd (true≢false (sym h ∙ no_len m zero e refl q))
    by (suc n) e = omega arith

more_than_none : (n : ℕ) → not (suc n == 0) ≡ true
more_than_none n = grind (arith, nat_tests)

pub some_entries : {X : Type 0} (xs : List (List ℕ × X)) → not (length xs == 0) ≡ nat_lt 0 (fin.len (fin.from_entries {R = name_cmp} xs))
some_entries {X} [] = sym (ap (nat_lt 0) (fin.len-empty name_cmp X))
some_entries {X} (x ∷ xs) =
    let m : fin.FinMap name_cmp X = fin.from_entries {R = name_cmp} xs in
    more_than_none (length xs) ∙ sym (ap (nat_lt 0) (fin.len-insert nat_list_cmp_total m x.0 x.1) ∙ longer (fin.contains_key m x.0) (fin.len m) (has_entry m x.0))
