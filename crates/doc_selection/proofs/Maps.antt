-- Maps with an entry.
use Rattle.std.proofs.Common.{◌≡◌, ℕ, zero, suc, ◌<◌, Bool, true, false, cond, List, [], ◌∷◌, length, nat_lt, refl, sym, ap, subst, ◌∙◌, arith, Option, Some, None, is_some, option_and_then}
use Rattle.std.specs.FinMap as fin
use Rattle.std.specs.Ordering.{eq_by_cmp}
use Rattle.std.specs.Cmp.{eq_by_cmp_equiv}
use Rattle.std.specs.Cmp.Lexicographic.{nat_list_cmp_total}
use Rattle.std.proofs.lemmas.Bool.Decides.{nat_tests}
use mathlib.Core.Bool.{true≢false}
use Rattle.doc_types.specs.declared.values.FieldType.{FieldType}
use Rattle.doc_types.specs.SchemaCodes.{name_cmp, Fields, Types}
use Rattle.doc_types.specs.Known.{has_fields, some_fields}
use Rattle.proof_basics.proofs.Options.{some_same, none_some}
use Rattle.doc_selection.specs.Atoms.{field_kind}

no_entry : (m : Fields) (q : List ℕ) → fin.len m ≡ 0 → fin.contains_key m q ≡ false
no_entry m q e = ap (λ k. fin.contains_key k q) (fin.empty_of_len m e) ∙ ap is_some (fin.get-empty name_cmp q)

field_there : (m : Fields) (q : List ℕ) (k : FieldType) → fin.get m q ≡ Some k → nat_lt 0 (fin.len m) ≡ true
field_there m q k e = by (fin.len m) refl
  where
    by : (n : ℕ) → fin.len m ≡ n → nat_lt 0 n ≡ true
    by zero z = absurd (true≢false (sym (ap is_some e) ∙ no_entry m q z))
    by (suc n) z = let p : 0 < suc n = omega arith in grind (arith, nat_tests, p)

pub known_fields : (types : Types) (name field : List ℕ) (k : FieldType) → field_kind types name field ≡ Some k → has_fields types name ≡ true
known_fields types name field k e = elim (fin.get types name) as (λ o. option_and_then (λ fields. fin.get fields field) o ≡ Some k → some_fields o ≡ true) [
  | None ↦ λ f. absurd (none_some k f)
  | Some fields ↦ λ f. field_there fields field k f
] e

itself : (q : List ℕ) → eq_by_cmp name_cmp q q ≡ true
itself q = (eq_by_cmp_equiv nat_list_cmp_total).refl q

first_field : (m : Fields) (es : List (List ℕ × FieldType)) → fin.entries m ≡ es → nat_lt 0 (length es) ≡ true → (q : List ℕ) × ((k : FieldType) × (fin.get m q ≡ Some k))
first_field m [] e h = absurd (true≢false (sym h))
first_field m (x ∷ xs) e h = (x.0, (x.1, fin.get-entries m x.0 ∙ ap (fin.find name_cmp x.0) e ∙ ap (λ b. cond b (Some x.1) (fin.find name_cmp x.0 xs)) (itself x.0)))

pub some_field : (types : Types) (name : List ℕ) → has_fields types name ≡ true → (q : List ℕ) × ((k : FieldType) × (field_kind types name q ≡ Some k))
some_field types name h = elim (fin.get types name) as (λ o. some_fields o ≡ true → (q : List ℕ) × ((k : FieldType) × (option_and_then (λ fields. fin.get fields q) o ≡ Some k))) [
  | None ↦ λ f. absurd (true≢false (sym f))
  | Some fields ↦ λ f. first_field fields (fin.entries fields) refl (ap (nat_lt 0) (sym (fin.len-entries fields)) ∙ f)
] h
