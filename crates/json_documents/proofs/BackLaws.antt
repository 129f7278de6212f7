-- Fields from the JSON that they are shown in.
use Rattle.std.proofs.Common.{◌≡◌, ℕ, suc, ℤ, pos, negsuc, ◌<◌, ◌≤◌, ◌^◌, Bool, true, false, not, ◌&&◌, List, [], ◌∷◌, length, map, refl, sym, ap, ap₂, ◌∙◌, cond, nat_lt, nat_le, arith, Option, Some, None, is_some, option_map}
use Rattle.std.proofs.lemmas.Bool.Decides.{nat_tests}
use Rattle.std.specs.FinMap as fin
use Rattle.std.specs.FinMap.{same_entries_map, entries-from_sorted, entries_sorted}
use Rattle.std.specs.List.{AllByRecursion}
use Rattle.serde_json.specs.Data.{Data, string}
use Rattle.serde_json.specs.Events.{items_len}
use Rattle.serde_json.specs.Find.{as_str}
use Rattle.serde_json.specs.View.{items_of}
use Rattle.doc_types.specs.SchemaCodes.{name_cmp, Types}
use Rattle.doc_types.specs.Values.{kind_of}
use Rattle.doc_types.specs.declared.values.FieldValue.{FieldValue}
use Rattle.doc_types.specs.declared.values.FieldValue.TheVariants.{Int, Text, Ints, Texts}
use Rattle.documents.specs.declared.fault.DocumentFault.TheVariants.{UnknownType}
use Rattle.json_documents.specs.DocumentFaults.{first_name, is_unknown, is_wrong, members_fault, document_fault}
use Rattle.documents.specs.Fields.{FieldMap}
use Rattle.documents.specs.Fitting.{IsSmall, IsStorable, Fits}
use Rattle.documents.specs.Kinds.{Kinds, kinds_of, most_items}
use Rattle.json_documents.specs.Json.{whole, each, few, onto, value_of, value_by, value_in, with_value, values_in, fields_in, number_json, value_json, members_json, fields_json}
use Rattle.documents.specs.Sizes.{largest, size_of}
use Rattle.documents.proofs.FieldLaws.{of_sorted}
use Rattle.documents.proofs.SizeLaws.{small_enough}

below : (n : ℕ) → n < 2 ^ 63 → nat_lt n (2 ^ 63) ≡ true
below n lt = grind (arith, nat_tests)

within : (n : ℕ) → n ≤ most_items → nat_le n most_items ≡ true
within n le = grind (arith, nat_tests)

small_back : (z : ℤ) → IsSmall z → whole (number_json z) ≡ Some z
small_back (pos n) lt = ap (λ b. cond b (Some (pos n)) None) (below n lt)
small_back (negsuc n) lt = refl

numbers_back : (zs : List ℤ) → AllByRecursion IsSmall zs → each whole (items_of (map number_json zs)) ≡ Some zs
numbers_back [] h = refl
numbers_back (z ∷ zs) h = ap₂ (λ x rest. onto x rest) (small_back z h.0) (numbers_back zs h.1)

texts_back : (ts : List (List ℕ)) → each as_str (items_of (map string ts)) ≡ Some ts
texts_back [] = refl
texts_back (t ∷ ts) = ap (onto (Some t)) (texts_back ts)

count_back : {X : Type 0} (f : X → Data) (xs : List X) → items_len (items_of (map f xs)) ≡ length xs
count_back f [] = refl
count_back f (x ∷ xs) = ap (λ n. suc n) (count_back f xs)

few_back : {X : Type 0} (f : X → Data) (read : Data → Option X) (xs : List X) → length xs ≤ most_items → each read (items_of (map f xs)) ≡ Some xs → few read (items_of (map f xs)) ≡ Some xs
few_back f read xs le is = ap₂ (λ b r. cond b r None) (ap (λ n. nat_le n most_items) (count_back f xs) ∙ within _ le) is

value_back : (v : FieldValue) → IsStorable v → value_of (kind_of v) (value_json v) ≡ Some v
unfolding value_of
value_back (Int z) h = ap (option_map Int) (small_back z h)
value_back (Text t) h = refl
value_back (Ints zs) h = ap (option_map Ints) (few_back number_json whole zs h.0 (numbers_back zs h.1))
value_back (Texts ts) h = ap (option_map Texts) (few_back string as_str ts h (texts_back ts))

module _ (kinds : Kinds) where
  in_back : (e : List ℕ × FieldValue) → (kinds e.0 ≡ Some (kind_of e.1)) × IsStorable e.1 → value_in kinds e.0 (value_json e.1) ≡ Some e.1
  in_back e h = ap (λ k. value_by k (value_json e.1)) h.0 ∙ value_back e.1 h.1

  values_back : (es : List (List ℕ × FieldValue)) → Fits kinds es → values_in kinds (members_json es) ≡ es
  values_back [] h = refl
  values_back (e ∷ es) h = ap₂ (λ v rest. with_value e.0 v rest) (in_back e h.0) (values_back es h.1)

  none_unknown : (es : List (List ℕ × FieldValue)) → Fits kinds es → first_name (is_unknown kinds) (members_json es) ≡ None
  none_unknown [] h = refl
  none_unknown (e ∷ es) h = ap₂ (λ k rest. cond (not (is_some k)) (Some e.0) rest) h.0.0 (none_unknown es h.1)

  none_wrong : (es : List (List ℕ × FieldValue)) → Fits kinds es → first_name (is_wrong kinds) (members_json es) ≡ None
  none_wrong [] h = refl
  none_wrong (e ∷ es) h = ap₂ (λ b rest. cond b (Some e.0) rest) (no_wrong e h.0) (none_wrong es h.1)
    where
      off : (b : Bool) → (b && false) ≡ false
      off true = refl
      off false = refl

      no_wrong : (e : List ℕ × FieldValue) → (kinds e.0 ≡ Some (kind_of e.1)) × IsStorable e.1 → is_wrong kinds e.0 (value_json e.1) ≡ false
      no_wrong e h = ap (λ v. not (is_some (Rattle.serde_json.specs.Find.as_null (value_json e.1))) && not (is_some v)) (in_back e h) ∙ off _

pub map_back : (m : FieldMap) → fin.from_entries {R = name_cmp} (fin.entries m) ≡ m
map_back m = sym (of_sorted (fin.entries m) (entries_sorted m)) ∙ same_entries_map _ _ (entries-from_sorted name_cmp (fin.entries m) (entries_sorted m))

pub same_back : (types : Types) (type_name : List ℕ) (m : FieldMap) → Fits (kinds_of types type_name) (fin.entries m) → fields_in (kinds_of types type_name) (fields_json m) ≡ m
same_back types type_name m h = ap (fin.from_entries {R = name_cmp}) (values_back (kinds_of types type_name) (fin.entries m) h) ∙ map_back m

pub right_back : (types : Types) (type_name : List ℕ) (m : FieldMap) → is_some (fin.get types type_name) ≡ true
    → Fits (kinds_of types type_name) (fin.entries m) → size_of m ≤ largest → document_fault types type_name (fields_json m) ≡ None
right_back types type_name m some h le =
    let kinds = kinds_of types type_name in
    ap (λ b. cond b (members_fault kinds (fields_json m)) (Some UnknownType)) some
    ∙ rw (none_unknown kinds (fin.entries m) h, none_wrong kinds (fin.entries m) h, same_back types type_name m h) (small_enough m (size_of m) refl le)
