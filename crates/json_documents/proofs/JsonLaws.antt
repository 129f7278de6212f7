-- Fields from JSON and to JSON.
use Rattle.std.proofs.Common.{◌≡◌, ℕ, zero, suc, ◌<◌, Bool, true, false, ◌&&◌, List, [], ◌∷◌, ◌++◌, length, get_or, take, drop, refl, sym, ap, subst, ◌∙◌, arith, Option, Some, None, is_some}
use Rattle.std.specs.Prelude.{T}
use Rattle.std.specs.FinMap as fin
use Rattle.std.specs.FinMap.Entries.{below_all}
use Rattle.std.specs.Cmp.Lexicographic.{nat_list_cmp_total}
use Rattle.std.specs.Ordering.{is_lt, ordering_reverse}
use Rattle.std.specs.declared.cmp.Ordering.{Ordering}
use Rattle.std.specs.declared.cmp.Ordering.TheVariants.{Less, Equal, Greater}
use Rattle.serde_json.specs.Data.{Data, null, boolean, number, string, array, object, Members, no_members, member, put}
use Rattle.serde_json.specs.Find.{as_null}
use Rattle.line_values.specs.Order.{are_rising}
use Rattle.line_values.proofs.Rising.{AllAbove, all_above}
use Rattle.doc_types.specs.SchemaCodes.{name_cmp}
use Rattle.doc_types.specs.declared.values.FieldType.{FieldType}
use Rattle.doc_types.specs.declared.values.FieldType.TheVariants as kind
use Rattle.doc_types.specs.declared.values.FieldValue.{FieldValue}
use Rattle.documents.specs.declared.field.Field.{Field}
use Rattle.documents.specs.Fields.{pairs}
use Rattle.json_documents.specs.Json.{value_of, value_by, with_value, said, value_json, members_json}

both : (a b : Bool) → T a → T b → T (a && b)
both true b p q = q
both false b p q = p

first : (a b : Bool) → T (a && b) → T a
first true b p = tt
first false b p = p

second : (a b : Bool) → T (a && b) → T b
second true b p = p
second false b p = absurd p

less : (o : Ordering) → T (is_lt o) → o ≡ Less
less Less p = refl
less Equal p = absurd p
less Greater p = absurd p

-- null says no value
pub null_none : (k : Option FieldType) (d : Data) → is_some (as_null d) ≡ true → value_by k d ≡ None
unfolding value_of
null_none None d e = refl
null_none (Some kind.Int) null e = refl
null_none (Some kind.Text) null e = refl
null_none (Some kind.IntArray) null e = refl
null_none (Some kind.TextArray) null e = refl
null_none (Some k) (boolean b) e = cc
null_none (Some k) (number n) e = cc
null_none (Some k) (string s) e = cc
null_none (Some k) (array ds) e = cc
null_none (Some k) (object ms) e = cc

below_middle : (x : List ℕ) (es : List (List ℕ × FieldValue)) (e : List ℕ × FieldValue) (more : List (List ℕ × FieldValue)) → T (below_all name_cmp x (es ++ e ∷ more)) → name_cmp x e.0 ≡ Less
below_middle x [] e more h = less _ (first _ _ h)
below_middle x (y ∷ es) e more h = below_middle x es e more (second _ _ h)

-- a name above all before it goes last
put_last : (es : List (List ℕ × FieldValue)) (e : List ℕ × FieldValue) (more : List (List ℕ × FieldValue)) → T (fin.is_sorted name_cmp (es ++ e ∷ more))
    → put e.0 (value_json e.1) (members_json es) ≡ members_json (es ++ e ∷ [])
put_last [] e more h = refl
put_last (x ∷ es) e more h =
    let above : name_cmp e.0 x.0 ≡ Greater = nat_list_cmp_total.antisymm e.0 x.0 ∙ ap ordering_reverse (below_middle x.0 es e more (first _ _ h)) in
    rw above (ap (member x.0 (value_json x.1)) (put_last es e more (second _ _ h)))

abbrev pair : Field → List ℕ × FieldValue
pair f = (f.name, f.value)

middle : (xs : List Field) (i : ℕ) (d : Field) → i < length xs → pairs xs ≡ pairs (take i xs) ++ (pair (get_or xs i d) ∷ pairs (drop (suc i) xs))
middle [] i d lt = absurd (omega arith)
middle (x ∷ xs) zero d lt = refl
middle (x ∷ xs) (suc i) d lt = ap (λ l. pair x ∷ l) (middle xs i d (omega arith))

until : (xs : List Field) (i : ℕ) (d : Field) → i < length xs → pairs (take (suc i) xs) ≡ pairs (take i xs) ++ (pair (get_or xs i d) ∷ [])
until [] i d lt = absurd (omega arith)
until (x ∷ xs) zero d lt = refl
until (x ∷ xs) (suc i) d lt = ap (λ l. pair x ∷ l) (until xs i d (omega arith))

-- one field more in JSON
pub json_more : (xs : List Field) (i : ℕ) (d : Field) → i < length xs → T (fin.is_sorted name_cmp (pairs xs))
    → put (get_or xs i d).name (value_json (get_or xs i d).value) (members_json (pairs (take i xs))) ≡ members_json (pairs (take (suc i) xs))
json_more xs i d lt sorted =
    put_last (pairs (take i xs)) (pair (get_or xs i d)) (pairs (drop (suc i) xs)) (subst (λ l. T (fin.is_sorted name_cmp l)) (middle xs i d lt) sorted)
    ∙ ap members_json (sym (until xs i d lt))

module _ {X : Type 0} (read : List ℕ → Data → Option X) where
  below_values : (x : List ℕ) (ms : Members) → AllAbove x ms → T (below_all name_cmp x (said read ms))
  below_values x no_members h = tt
  below_values x (member k d ms) h =
      let rest = below_values x ms h.1 in
      elim (read k d) as (λ v. T (below_all name_cmp x (with_value k v (said read ms)))) [
        | None ↦ rest
        | Some v ↦ both _ _ (subst (λ o. T (is_lt o)) (sym h.0) tt) rest
      ]

  -- what an object says stands in the order of the names
  pub said_sorted : (ms : Members) → are_rising ms ≡ true → T (fin.is_sorted name_cmp (said read ms))
  said_sorted no_members h = tt
  said_sorted (member k d ms) h =
      let parts = all_above k d ms h in
      let rest = said_sorted ms parts.1 in
      elim (read k d) as (λ v. T (fin.is_sorted name_cmp (with_value k v (said read ms)))) [
        | None ↦ rest
        | Some v ↦ both _ _ (below_values k ms parts.0) rest
      ]
