-- Look-ups and changes in lists of fields.
use Rattle.std.proofs.Common.{◌≡◌, ℕ, ◌<◌, ◌≤◌, Bool, true, false, not, cond, List, [], ◌∷◌, length, get_or, set, insert, refl, sym, ap, ap₂, ◌∙◌, arith, Option, Some, None, option_map, bytes_eq, Result, Ok, Err, OnOk}
use Rattle.std.specs.Prelude.{T}
use mathlib.Core.Bool.{true≢false}
use denote.Ref.{Bor}
use Rattle.std.specs.List.{find, filter}
use Rattle.std.specs.FinMap as fin
use Rattle.std.specs.FinMap.{same_entries_map, entries-from_sorted, entries-insert, empty_of_len, len-entries, same_map, get-remove, get-from_sorted, get-from_entries, slice_cmp-IsAntisymmetric, nat_cmp-IsAntisymmetric}
use Rattle.std.specs.FinMap.Entries.{is_sorted-put, is_sorted-where_key, find-where_key}
use Rattle.std.specs.Cmp.{eq_by_cmp_equiv}
use Rattle.std.specs.Cmp.Lexicographic.{nat_list_cmp_total}
use Rattle.std.specs.Ordering.{eq_by_cmp, is_eq}
use Rattle.std.specs.declared.cmp.Ordering.TheVariants.{Less, Equal, Greater}
use Rattle.std.proofs.lemmas.Map.Text.{is_eq-slice_cmp}
use Rattle.doc_types.specs.SchemaCodes.{name_cmp}
use Rattle.doc_types.specs.declared.values.FieldValue.{FieldValue}
use Rattle.documents.specs.declared.field.Field.{Field}
use Rattle.documents.specs.Fields.{pairs}
use Rattle.documents.specs.Places.{place}

same_test : (a q : List ℕ) → eq_by_cmp name_cmp q a ≡ bytes_eq a q
same_test a q = (eq_by_cmp_equiv nat_list_cmp_total).symm q a ∙ is_eq-slice_cmp a q

pub found : (q : List ℕ) (xs : List Field) → fin.find name_cmp q (pairs xs) ≡ option_map (λ f. f.value) (find (λ x. bytes_eq x.name q) xs)
found q [] = refl
found q (x ∷ xs) = ap₂ (λ b o. cond b (Some x.value) o) (same_test x.name q) (found q xs) ∙ turned (bytes_eq x.name q) x (find (λ y. bytes_eq y.name q) xs)
  where
    turned : (b : Bool) (x : Field) (o : Option Field) → cond b (Some x.value) (option_map (λ f. f.value) o) ≡ option_map (λ f. f.value) (cond b (Some x) o)
    turned true x o = refl
    turned false x o = refl

pub lent : (r : Option (Bor Field)) (o : Option Field) → option_map (λ x. x.now) r ≡ o → option_map (λ x. x.now.value) r ≡ option_map (λ f. f.value) o
lent None o e = ap (option_map (λ f. f.value)) e
lent (Some x) o e = ap (option_map (λ f. f.value)) e

same_refl : (a : List ℕ) → is_eq (name_cmp a a) ≡ true
same_refl a = (eq_by_cmp_equiv nat_list_cmp_total).refl a

-- another field of the name at its place
pub put_there : (f : Field) (xs : List Field) (d : Field) → place f.name (pairs xs) < length xs → (get_or xs (place f.name (pairs xs)) d).name ≡ f.name
    → pairs (set xs (place f.name (pairs xs)) f) ≡ fin.put name_cmp f.name f.value (pairs xs)
put_there f [] d lt same = absurd (omega arith)
put_there f (x ∷ xs) d lt same =
    elim (name_cmp f.name x.name) as (λ r. name_cmp f.name x.name ≡ r → pairs (set (x ∷ xs) (place f.name (pairs (x ∷ xs))) f) ≡ fin.put name_cmp f.name f.value (pairs (x ∷ xs))) [
      | Less ↦ (λ p. absurd (true≢false (sym (ap (λ n. is_eq (name_cmp f.name n)) (rw p at same) ∙ same_refl f.name) ∙ ap is_eq p)))
      | Equal ↦ (λ p. rw p (ap (λ n. (n, f.value) ∷ pairs xs) (sym (rw p at same))))
      | Greater ↦ (λ p. rw p (ap (λ l. (x.name, x.value) ∷ l) (put_there f xs d (omega (arith, (rw p at lt))) (rw p at same))))
    ] refl

-- a field of a new name at its place
pub put_between : (f : Field) (xs : List Field) → (place f.name (pairs xs) < length xs → (d : Field) → (get_or xs (place f.name (pairs xs)) d).name ≡ f.name → ⊥)
    → pairs (insert xs (place f.name (pairs xs)) f) ≡ fin.put name_cmp f.name f.value (pairs xs)
put_between f [] differs = refl
put_between f (x ∷ xs) differs =
    elim (name_cmp f.name x.name) as (λ r. name_cmp f.name x.name ≡ r → pairs (insert (x ∷ xs) (place f.name (pairs (x ∷ xs))) f) ≡ fin.put name_cmp f.name f.value (pairs (x ∷ xs))) [
      | Less ↦ (λ p. rw p refl)
      | Equal ↦ (λ p. absurd ((rw p at differs) (omega arith) x (sym (slice_cmp-IsAntisymmetric nat_cmp-IsAntisymmetric f.name x.name p))))
      | Greater ↦ (λ p. rw p (ap (λ l. (x.name, x.value) ∷ l) (put_between f xs (λ lt d same. (rw p at differs) (omega (arith, lt)) d same))))
    ] refl

pub place_within : (k : List ℕ) (xs : List Field) → place k (pairs xs) ≤ length xs
place_within k [] = omega arith
place_within k (x ∷ xs) =
    elim (name_cmp k x.name) as (λ r. name_cmp k x.name ≡ r → place k (pairs (x ∷ xs)) ≤ length (x ∷ xs)) [
      | Less ↦ (λ p. rw p (omega arith))
      | Equal ↦ (λ p. rw p (omega arith))
      | Greater ↦ (λ p. rw p (omega (arith, place_within k xs)))
    ] refl

-- the map of a list in order, with one field more
pub map_put : (es : List (List ℕ × FieldValue)) (k : List ℕ) (v : FieldValue) → T (fin.is_sorted name_cmp es) → fin.from_sorted {R = name_cmp} (fin.put name_cmp k v es) ≡ fin.insert (fin.from_sorted es) k v
map_put es k v sorted = same_entries_map _ _ (
    entries-from_sorted name_cmp (fin.put name_cmp k v es) (is_sorted-put name_cmp nat_list_cmp_total k v es sorted)
    ∙ ap (fin.put name_cmp k v) (sym (entries-from_sorted name_cmp es sorted))
    ∙ sym (entries-insert nat_list_cmp_total (fin.from_sorted es) k v))

pub sorted_put : (es : List (List ℕ × FieldValue)) (k : List ℕ) (v : FieldValue) → T (fin.is_sorted name_cmp es) → T (fin.is_sorted name_cmp (fin.put name_cmp k v es))
sorted_put es k v sorted = is_sorted-put name_cmp nat_list_cmp_total k v es sorted

pub none_sorted : fin.from_sorted {R = name_cmp} [] ≡ fin.empty {X = FieldValue}
none_sorted = empty_of_len _ (len-entries _ ∙ ap length (entries-from_sorted name_cmp [] tt))

pub got : (es : List (List ℕ × FieldValue)) (k : List ℕ) → T (fin.is_sorted name_cmp es) → fin.find name_cmp k es ≡ fin.get (fin.from_sorted {R = name_cmp} es) k
got es k sorted = sym (get-from_sorted name_cmp es k sorted)

-- a fact from a call that went well
pub ok_then : {A E P Q : Type 0} (r : Result A E) → OnOk r P → (P → Q) → OnOk r Q
ok_then (Ok x) p f = f p
ok_then (Err e) p f = tt

abbrev without : List ℕ → List (List ℕ × FieldValue) → List (List ℕ × FieldValue)
without q es = filter (λ e. not (eq_by_cmp name_cmp q e.0)) es

abbrev less : List ℕ → List Field → List Field
less q xs = filter (λ f. not (bytes_eq f.name q)) xs

by_test : (b : Bool) (x : Field) (xs : List Field) (es : List (List ℕ × FieldValue)) → pairs xs ≡ es → pairs (cond b (x ∷ xs) xs) ≡ cond b ((x.name, x.value) ∷ es) es
by_test true x xs es is = ap (λ l. (x.name, x.value) ∷ l) is
by_test false x xs es is = is

-- a field less
pub cleared : (q : List ℕ) (xs : List Field) → pairs (filter (λ f. not (bytes_eq f.name q)) xs) ≡ filter (λ (e : List ℕ × FieldValue). not (eq_by_cmp name_cmp q e.0)) (pairs xs)
cleared q [] = refl
cleared q (x ∷ xs) =
    by_test (not (bytes_eq x.name q)) x (less q xs) (without q (pairs xs)) (cleared q xs)
    ∙ ap (λ b. cond (not b) ((x.name, x.value) ∷ without q (pairs xs)) (without q (pairs xs))) (sym (same_test x.name q))

pub sorted_cleared : (es : List (List ℕ × FieldValue)) (q : List ℕ) → T (fin.is_sorted name_cmp es) → T (fin.is_sorted name_cmp (filter (λ (e : List ℕ × FieldValue). not (eq_by_cmp name_cmp q e.0)) es))
sorted_cleared es q sorted = is_sorted-where_key name_cmp (λ x. not (eq_by_cmp name_cmp q x)) es sorted

pub map_cleared : (es : List (List ℕ × FieldValue)) (q : List ℕ) → T (fin.is_sorted name_cmp es)
    → fin.from_sorted {R = name_cmp} (filter (λ (e : List ℕ × FieldValue). not (eq_by_cmp name_cmp q e.0)) es) ≡ fin.remove (fin.from_sorted es) q
map_cleared es q sorted = same_map nat_list_cmp_total (slice_cmp-IsAntisymmetric nat_cmp-IsAntisymmetric) _ _ (λ k.
    sym (got (without q es) k (sorted_cleared es q sorted))
    ∙ find-where_key name_cmp (λ x. not (eq_by_cmp name_cmp q x)) k (λ x e. ap (λ y. not (eq_by_cmp name_cmp q y)) (sym (slice_cmp-IsAntisymmetric nat_cmp-IsAntisymmetric k x e))) es
    ∙ turned (eq_by_cmp name_cmp q k) (fin.find name_cmp k es)
    ∙ ap₂ (λ b o. cond b None o) ((eq_by_cmp_equiv nat_list_cmp_total).symm q k) (got es k sorted)
    ∙ sym (get-remove nat_list_cmp_total (fin.from_sorted es) q k))
  where
    turned : (b : Bool) (o : Option FieldValue) → cond (not b) o None ≡ cond b None o
    turned true o = refl
    turned false o = refl

-- a list in order is the map of its entries
pub of_sorted : {X : Type 0} (es : List (List ℕ × X)) → T (fin.is_sorted name_cmp es) → fin.from_sorted {R = name_cmp} es ≡ fin.from_entries es
of_sorted es sorted = same_map nat_list_cmp_total (slice_cmp-IsAntisymmetric nat_cmp-IsAntisymmetric) _ _
    (λ q. get-from_sorted name_cmp es q sorted ∙ sym (get-from_entries nat_list_cmp_total es q))
