-- Look-ups in lists that maps are made of.
use Rattle.std.proofs.Common.{◌≡◌, ℕ, Bool, true, false, cond, List, [], ◌∷◌, map, refl, sym, ap, ap₂, ◌∙◌, Option, Some, None, option_map, option_and_then, bytes_eq, is_some}
use denote.Ref.{Bor}
use Rattle.std.specs.List.{find}
use Rattle.std.specs.FinMap as fin
use Rattle.std.specs.FinMap.{get-from_entries}
use Rattle.std.specs.Cmp.{eq_by_cmp_equiv}
use Rattle.std.specs.Cmp.Lexicographic.{nat_list_cmp_total}
use Rattle.std.specs.Ordering.{eq_by_cmp}
use Rattle.std.proofs.lemmas.Map.Text.{is_eq-slice_cmp}
use Rattle.doc_types.specs.declared.values.FieldType.{FieldType}
use Rattle.doc_types.specs.SchemaCodes.{name_cmp, Fields}

same_test : (a q : List ℕ) → eq_by_cmp name_cmp q a ≡ bytes_eq a q
same_test a q = (eq_by_cmp_equiv nat_list_cmp_total).symm q a ∙ is_eq-slice_cmp a q

module _ {X V : Type 0} (key : X → List ℕ) (val : X → V) where
  pub found : (q : List ℕ) (xs : List X) → fin.find name_cmp q (map (λ x. (key x, val x)) xs) ≡ option_map val (find (λ x. bytes_eq (key x) q) xs)
  found q [] = refl
  found q (x ∷ xs) = ap₂ (λ b o. cond b (Some (val x)) o) (same_test (key x) q) (found q xs) ∙ turned (bytes_eq (key x) q) x (find (λ y. bytes_eq (key y) q) xs)
    where
      turned : (b : Bool) (x : X) (o : Option X) → cond b (Some (val x)) (option_map val o) ≡ option_map val (cond b (Some x) o)
      turned true x o = refl
      turned false x o = refl

  pub lent : (r : Option (Bor X)) (o : Option X) → option_map (λ x. x.now) r ≡ o → option_map (λ x. val x.now) r ≡ option_map val o
  lent None o e = ap (option_map val) e
  lent (Some x) o e = ap (option_map val) e

pub got : {V : Type 0} (es : List (List ℕ × V)) (q : List ℕ) → fin.get (fin.from_entries {R = name_cmp} es) q ≡ fin.find name_cmp q es
got es q = get-from_entries nat_list_cmp_total es q

pub field_of : (types : List (List ℕ × Fields)) (q f : List ℕ) (fields : Fields) → Some fields ≡ fin.find name_cmp q types
    → fin.get fields f ≡ option_and_then (λ fs. fin.get fs f) (fin.get (fin.from_entries {R = name_cmp} types) q)
field_of types q f fields e = ap (option_and_then (λ fs. fin.get fs f)) (e ∙ sym (got types q))

pub no_field : (types : List (List ℕ × Fields)) (q f : List ℕ) → ◌≡◌ {A = Option Fields} None (fin.find name_cmp q types)
    → ◌≡◌ {A = Option FieldType} None (option_and_then (λ fs. fin.get fs f) (fin.get (fin.from_entries {R = name_cmp} types) q))
no_field types q f e = ap (option_and_then (λ fs. fin.get fs f)) (e ∙ sym (got types q))

pub some_mapped : {X V : Type 0} (f : X → V) (r : Option X) → is_some r ≡ is_some (option_map f r)
some_mapped f None = refl
some_mapped f (Some x) = refl
