-- Documents whose values are of their kinds.
use Rattle.std.proofs.Common.{◌≡◌, ℕ, ℤ, ◌<◌, ◌&&◌, ◌||◌, Bool, true, false, not, cond, List, [], ◌∷◌, length, get_or, refl, sym, ap, ap₂, subst, ◌∙◌, Option, Some, None, bytes_eq}
use Rattle.std.specs.List.{list_all}
use Rattle.std.specs.FinMap as fin
use Rattle.std.specs.FinMap.{get-retain_keys, same_map, slice_cmp-IsAntisymmetric, nat_cmp-IsAntisymmetric}
use Rattle.std.specs.Cmp.Lexicographic.{nat_list_cmp_total}
use Rattle.proof_basics.proofs.Tests.{clash}
use Rattle.proof_basics.proofs.Options.{none_some, some_same}
use Rattle.doc_types.specs.SchemaCodes.{Types}
use Rattle.doc_types.specs.SchemaCodes as schema
use Rattle.doc_types.specs.declared.values.FieldValue.{FieldValue}
use Rattle.document_ids.specs.Parts.{type_of}
use Rattle.documents.specs.Fields.{Contents, FieldMap, pairs}
use Rattle.documents.specs.declared.field.Field.{Field}
use Rattle.document_indexes.specs.Entering.{Pairs, has_name, AreNamed, value_of}
use Rattle.document_indexes.proofs.PairLaws.{value_get, entries_named, name_at, value_at, no_pair}
use Rattle.document_rows.specs.Rows.{fits, kind_in, fitted}
use Rattle.document_rows.specs.Reading.{value_has_number, IsWide}
use Rattle.document_rows.proofs.RowLaws.{same_id}
use Rattle.node_rows.specs.Kept.{pair_fits, is_unfit, IsProper}

-- the fields' values that are of their kinds
pub get_fitted : (types : Types) (d : Contents) (f : List ℕ) → fin.get (fitted types d).fields f ≡ cond (fits (kind_in (fin.get types (type_of d.id)) f) (fin.get d.fields f)) (fin.get d.fields f) None
get_fitted types d f = get-retain_keys d.fields fits_at f (λ x e. ap fits_at (sym (slice_cmp-IsAntisymmetric nat_cmp-IsAntisymmetric f x e)))
  where
    fits_at : List ℕ → Bool
    fits_at g = fits (kind_in (fin.get types (type_of d.id)) g) (fin.get d.fields g)

same_fields : (m n : FieldMap) → ((f : List ℕ) → fin.get m f ≡ fin.get n f) → m ≡ n
same_fields m n e = same_map nat_list_cmp_total (slice_cmp-IsAntisymmetric nat_cmp-IsAntisymmetric) m n e

-- it is the document itself, where each value fits
value_fits : (kinds : Option schema.Fields) (f : List ℕ) (es : Pairs) (v : FieldValue) → list_all (pair_fits kinds) es ≡ true → value_of f es ≡ Some v → fits (kind_in kinds f) (Some v) ≡ true
value_fits kinds f [] v h e = absurd (none_some v e)
value_fits kinds f (p ∷ es) v h e = by_tests (bytes_eq f p.0) (pair_fits kinds p) refl refl h e (value_fits kinds f es v)
  where
    by_tests : (t u : Bool) → bytes_eq f p.0 ≡ t → pair_fits kinds p ≡ u → (u && list_all (pair_fits kinds) es) ≡ true → cond t (Some p.1) (value_of f es) ≡ Some v
        → (list_all (pair_fits kinds) es ≡ true → value_of f es ≡ Some v → fits (kind_in kinds f) (Some v) ≡ true) → fits (kind_in kinds f) (Some v) ≡ true
    by_tests true true a b h e ih = ap₂ (λ x w. fits (kind_in kinds x) (Some w)) (same_id f p.0 a) (sym (some_same p.1 v e)) ∙ b
    by_tests false true a b h e ih = ih h e
    by_tests t false a b h e ih = clash h refl

pub all_fitted : (types : Types) (d : Contents) → list_all (pair_fits (fin.get types (type_of d.id))) (fin.entries d.fields) ≡ true → fitted types d ≡ d
all_fitted types d h = ap (λ fields. record { id = d.id; fields = fields }) (same_fields (fitted types d).fields d.fields (λ f. get_fitted types d f ∙ by_value f (fin.get d.fields f) refl))
  where
    by_value : (f : List ℕ) (o : Option FieldValue) → fin.get d.fields f ≡ o → cond (fits (kind_in (fin.get types (type_of d.id)) f) o) o None ≡ o
    by_value f None e = by_test (fits (kind_in (fin.get types (type_of d.id)) f) None)
      where
        by_test : (t : Bool) → ◌≡◌ {A = Option FieldValue} (cond t None None) None
        by_test true = refl
        by_test false = refl
    by_value f (Some v) e = ap (λ t. cond t (Some v) None) (value_fits (fin.get types (type_of d.id)) f (fin.entries d.fields) v h (value_get d.fields f ∙ e))

-- once more takes nothing more
pub fitted_twice : (types : Types) (d : Contents) → fitted types (fitted types d) ≡ fitted types d
fitted_twice types d = ap (λ fields. record { id = d.id; fields = fields }) (same_fields (fitted types (fitted types d)).fields (fitted types d).fields (λ f. get_fitted types (fitted types d) f ∙ by_get f (fin.get (fitted types d).fields f) (get_fitted types d f)))
  where
    by_fit : (f : List ℕ) (o : Option FieldValue) (t : Bool) → fits (kind_in (fin.get types (type_of d.id)) f) o ≡ t → cond (fits (kind_in (fin.get types (type_of d.id)) f) (cond t o None)) (cond t o None) None ≡ cond t o None
    by_fit f o true e = ap (λ t. cond t o None) e
    by_fit f o false e = none_either (fits (kind_in (fin.get types (type_of d.id)) f) None)
      where
        none_either : (t : Bool) → ◌≡◌ {A = Option FieldValue} (cond t None None) None
        none_either true = refl
        none_either false = refl

    by_get : (f : List ℕ) (r : Option FieldValue) → r ≡ cond (fits (kind_in (fin.get types (type_of d.id)) f) (fin.get d.fields f)) (fin.get d.fields f) None → cond (fits (kind_in (fin.get types (type_of d.id)) f) r) r None ≡ r
    by_get f r e = subst (λ r. cond (fits (kind_in (fin.get types (type_of d.id)) f) r) r None ≡ r) (sym e) (by_fit f (fin.get d.fields f) (fits (kind_in (fin.get types (type_of d.id)) f) (fin.get d.fields f)) refl)

pub proper_fitted : (types : Types) (d : Contents) → ((f : List ℕ) (q : ℤ) → value_has_number q (fin.get d.fields f) ≡ true → IsWide q) → IsProper types (fitted types d)
proper_fitted types d wide = record {
  whole = fitted_twice types d;
  wide = λ f q h. by_test f q (fits (kind_in (fin.get types (type_of d.id)) f) (fin.get d.fields f)) (sym (ap (value_has_number q) (get_fitted types d f)) ∙ h);
}
  where
    by_test : (f : List ℕ) (q : ℤ) (t : Bool) → value_has_number q (cond t (fin.get d.fields f) None) ≡ true → IsWide q
    by_test f q true h = wide f q h
    by_test f q false h = clash h refl

-- ---- the fields one after the other

pub pair_at : (kinds : Option schema.Fields) (fields : List Field) (at : ℕ) (x : Field) → at < length fields → x ≡ get_or fields at x → pair_fits kinds (get_or (pairs fields) at no_pair) ≡ fits (kind_in kinds x.name) (Some x.value)
pair_at kinds fields at x l e = ap₂ (λ a b. fits (kind_in kinds a) (Some b)) (sym (name_at fields at x l e)) (sym (value_at fields at x l e))

-- a field's numbers, after those before it
pub wide_more : (q : ℤ) (before : Bool) (last next : Option FieldValue) → (value_has_number q last ≡ true → IsWide q) → (value_has_number q next ≡ true → IsWide q) → value_has_number q (cond before last next) ≡ true → IsWide q
wide_more q true last next g h i = g i
wide_more q false last next g h i = h i

pub wide_own : (t : Bool) (q : ℤ) (v : FieldValue) → (value_has_number q (Some v) ≡ true → IsWide q) → value_has_number q (cond t (Some v) None) ≡ true → IsWide q
wide_own true q v g h = g h
wide_own false q v g h = clash h refl

-- a document without the fields so far that don't fit, and one field more
pub unfit_more : {X : Type 0} (before fresh : Bool) (new cur old : Option X) → new ≡ cond fresh None cur → cur ≡ cond before None old → new ≡ cond (before || fresh) None old
unfit_more true true new cur old a b = a
unfit_more true false new cur old a b = a ∙ b
unfit_more false true new cur old a b = a
unfit_more false false new cur old a b = a ∙ b

-- without all that don't fit
unfit_is : (kinds : Option schema.Fields) (f : List ℕ) (es : Pairs) → AreNamed es → cond (is_unfit kinds f es) None (value_of f es) ≡ cond (fits (kind_in kinds f) (value_of f es)) (value_of f es) None
unfit_is kinds f [] h = none_either (fits (kind_in kinds f) None)
  where
    none_either : (t : Bool) → ◌≡◌ {A = Option FieldValue} None (cond t None None)
    none_either true = refl
    none_either false = refl
unfit_is kinds f (p ∷ es) h = by_tests (bytes_eq f p.0) (pair_fits kinds p) refl refl (unfit_is kinds f es h.1)
  where
    none_unfit : (xs : Pairs) → has_name f xs ≡ false → is_unfit kinds f xs ≡ false
    none_unfit [] g = refl
    none_unfit (x ∷ xs) g = first (bytes_eq f x.0) g (none_unfit xs)
      where
        first : (t : Bool) → (t || has_name f xs) ≡ false → (has_name f xs ≡ false → is_unfit kinds f xs ≡ false) → ((t && not (pair_fits kinds x)) || is_unfit kinds f xs) ≡ false
        first true k ih = clash refl k
        first false k ih = ih k

    by_tests : (t u : Bool) → bytes_eq f p.0 ≡ t → pair_fits kinds p ≡ u → cond (is_unfit kinds f es) None (value_of f es) ≡ cond (fits (kind_in kinds f) (value_of f es)) (value_of f es) None
        → cond ((t && not u) || is_unfit kinds f es) None (cond t (Some p.1) (value_of f es)) ≡ cond (fits (kind_in kinds f) (cond t (Some p.1) (value_of f es))) (cond t (Some p.1) (value_of f es)) None
    by_tests true true a b ih =
        ap (λ t. cond t None (Some p.1)) (none_unfit es (ap (λ x. has_name x es) (same_id f p.0 a) ∙ h.0))
        ∙ sym (ap (λ t. cond t (Some p.1) None) (ap (λ x. fits (kind_in kinds x) (Some p.1)) (same_id f p.0 a) ∙ b))
    by_tests true false a b ih = sym (ap (λ t. cond t (Some p.1) None) (ap (λ x. fits (kind_in kinds x) (Some p.1)) (same_id f p.0 a) ∙ b))
    by_tests false u a b ih = ih

pub fitted_by : (types : Types) (d copy : Contents) → copy.id ≡ d.id → ((f : List ℕ) → fin.get copy.fields f ≡ cond (is_unfit (fin.get types (type_of d.id)) f (fin.entries d.fields)) None (fin.get d.fields f)) → copy ≡ fitted types d
fitted_by types d copy e g =
    ap (λ id. record { id = id; fields = copy.fields }) e
    ∙ ap (λ fields. record { id = d.id; fields = fields })
    (same_fields copy.fields (fitted types d).fields (λ f.
    g f ∙ ap (cond (is_unfit (fin.get types (type_of d.id)) f (fin.entries d.fields)) None) (sym (value_get d.fields f))
    ∙ unfit_is (fin.get types (type_of d.id)) f (fin.entries d.fields) (entries_named d.fields)
    ∙ ap (λ o. cond (fits (kind_in (fin.get types (type_of d.id)) f) o) o None) (value_get d.fields f)
    ∙ sym (get_fitted types d f)))
