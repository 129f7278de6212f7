-- Fields that pass a test, and outputs that are left.
use Rattle.std.proofs.Common.{◌≡◌, ℕ, ◌||◌, Bool, true, false, not, cond, List, [], ◌∷◌, ◌++◌, map, Option, Some, None, is_some, option_and_then, refl, sym, ap, ◌∙◌, append_assoc}
use Rattle.std.specs.List.{list_any}
use Rattle.std.specs.FinMap as fin
use Rattle.std.specs.String.{string_bytes}
use Rattle.std.specs.Ordering.{eq_by_cmp}
use Rattle.std.specs.Cmp.{eq_by_cmp_equiv}
use Rattle.std.specs.Cmp.Lexicographic.{nat_list_cmp_total, same_text}
use Rattle.std.proofs.lemmas.Map.Text.{is_eq-slice_cmp}
use Rattle.doc_types.specs.declared.outputs.OutputKind.{OutputKind}
use Rattle.doc_types.specs.declared.outputs.OutputKind.TheVariants as output
use Rattle.doc_types.specs.declared.schema.FieldOf.{FieldOf}
use Rattle.doc_types.specs.declared.values.FieldType.{FieldType}
use Rattle.doc_types.specs.declared.values.FieldType.TheVariants as kind
use Rattle.doc_types.specs.SchemaCodes.{name_cmp, Types}
use Rattle.doc_types.specs.SchemaMaps.{field_pair}
use Rattle.proof_basics.proofs.Tests.{false_true}
use Rattle.query_groups.specs.declared.fields.Fold.{Fold}
use Rattle.query_groups.specs.declared.fields.Fold.TheVariants as fold
use Rattle.query_groups.specs.Outputs.{field_kind, output_of, is_named, NamedOnce, OutputFits, OutputsFit, names_in, some_field, groups_by, has_groups, is_free, some_free, some_left}

-- lists with an item that passes
pub any_found : {X : Type 0} (p : X → Bool) (xs : List X) → list_any p xs ≡ true → (x : X) × (p x ≡ true)
any_found p [] e = absurd (false_true e)
any_found p (x ∷ xs) e = elim (p x) as (λ b. p x ≡ b → (b || list_any p xs) ≡ true → (y : _) × (p y ≡ true)) [
  | true ↦ λ h f. (x, h)
  | false ↦ λ h f. any_found p xs f
] refl e

same_name : (q x : List ℕ) → eq_by_cmp name_cmp q x ≡ true → q ≡ x
same_name q x e = same_text q x (sym (sym (is_eq-slice_cmp q x) ∙ e))

or_right : (b : Bool) → (b || true) ≡ true
or_right true = refl
or_right false = refl

name_there : (p : List ℕ → Bool) (q : List ℕ) (xs : List (List ℕ)) → list_any (eq_by_cmp name_cmp q) xs ≡ true → p q ≡ true → list_any p xs ≡ true
name_there p q [] e h = absurd (false_true e)
name_there p q (x ∷ xs) e h = elim (eq_by_cmp name_cmp q x) as (λ b. eq_by_cmp name_cmp q x ≡ b → (b || list_any (eq_by_cmp name_cmp q) xs) ≡ true → (p x || list_any p xs) ≡ true) [
  | true ↦ λ s f. ap (λ b. b || list_any p xs) (ap p (sym (same_name q x s)) ∙ h)
  | false ↦ λ s f. ap (λ b. p x || b) (name_there p q xs f h) ∙ or_right (p x)
] refl e

itself : (q : List ℕ) → eq_by_cmp name_cmp q q ≡ true
itself q = (eq_by_cmp_equiv nat_list_cmp_total).refl q

-- a name with a field is a name of the type
pub name_known : (types : Types) (name field : List ℕ) → is_some (field_kind types name field) ≡ true → list_any (eq_by_cmp name_cmp field) (names_in (fin.get types name)) ≡ true
name_known types name field h = elim (fin.get types name) as (λ o. is_some (option_and_then (λ fields. fin.get fields field) o) ≡ true → list_any (eq_by_cmp name_cmp field) (names_in o) ≡ true) [
  | None ↦ λ e. absurd (false_true e)
  | Some fields ↦ λ e. sym (fin.contains_key-keys fields field) ∙ e
] h

pub field_there : (types : Types) (name : List ℕ) (test : List ℕ → Option FieldType → Bool) (field : List ℕ) → is_some (field_kind types name field) ≡ true → test field (field_kind types name field) ≡ true → some_field types name test ≡ true
field_there types name test field h e = name_there (λ f. test f (field_kind types name f)) field (names_in (fin.get types name)) (name_known types name field h) e

pub field_found : (types : Types) (name : List ℕ) (test : List ℕ → Option FieldType → Bool) → some_field types name test ≡ true → (field : List ℕ) × (test field (field_kind types name field) ≡ true)
field_found types name test e = any_found (λ f. test f (field_kind types name f)) (names_in (fin.get types name)) e

-- the names of a list of fields are those of its map
any_name_there : (p : List ℕ → Bool) (xs ys : List (List ℕ)) → ((q : List ℕ) → list_any (eq_by_cmp name_cmp q) xs ≡ true → list_any (eq_by_cmp name_cmp q) ys ≡ true) → list_any p xs ≡ true → list_any p ys ≡ true
any_name_there p [] ys h e = absurd (false_true e)
any_name_there p (x ∷ xs) ys h e = elim (p x) as (λ b. p x ≡ b → (b || list_any p xs) ≡ true → list_any p ys ≡ true) [
  | true ↦ λ r f. name_there p x ys (h x (ap (λ b. b || list_any (eq_by_cmp name_cmp x) xs) (itself x))) r
  | false ↦ λ r f. any_name_there p xs ys (λ q g. h q (ap (λ b. eq_by_cmp name_cmp q x || b) g ∙ or_right (eq_by_cmp name_cmp q x))) f
] refl e

both_true : (a b : Bool) → (a ≡ true → b ≡ true) → (b ≡ true → a ≡ true) → a ≡ b
both_true true true f g = refl
both_true true false f g = sym (f refl)
both_true false true f g = g refl
both_true false false f g = refl

names_of : List FieldOf → List (List ℕ)
names_of fields = map (λ e. e.0) (map field_pair fields)

any_mapped : (p : List ℕ → Bool) (fields : List FieldOf) → list_any (λ f. p (string_bytes f.name)) fields ≡ list_any p (names_of fields)
unfolding names_of
any_mapped p [] = refl
any_mapped p (f ∷ fs) = ap (λ b. p (string_bytes f.name) || b) (any_mapped p fs)

some_entry : (q : List ℕ) (es : List (List ℕ × FieldType)) → list_any (eq_by_cmp name_cmp q) (map (λ e. e.0) es) ≡ is_some (fin.find name_cmp q es)
some_entry q [] = refl
some_entry q (e ∷ es) = elim (eq_by_cmp name_cmp q e.0) as (λ b. (b || list_any (eq_by_cmp name_cmp q) (map (λ x. x.0) es)) ≡ is_some (cond b (Some e.1) (fin.find name_cmp q es))) [ true ↦ refl | false ↦ some_entry q es ]

same_names : (fields : List FieldOf) (q : List ℕ) → list_any (eq_by_cmp name_cmp q) (names_of fields) ≡ list_any (eq_by_cmp name_cmp q) (fin.keys (fin.from_entries {R = name_cmp} (map field_pair fields)))
unfolding names_of
same_names fields q =
    let es : List (List ℕ × FieldType) = map field_pair fields in
    some_entry q es ∙ ap is_some (sym (fin.get-from_entries nat_list_cmp_total es q)) ∙ fin.contains_key-keys (fin.from_entries {R = name_cmp} es) q

pub fields_tried : (p : List ℕ → Bool) (fields : List FieldOf) → list_any (λ f. p (string_bytes f.name)) fields ≡ list_any p (fin.keys (fin.from_entries {R = name_cmp} (map field_pair fields)))
fields_tried p fields =
    let keys : List (List ℕ) = fin.keys (fin.from_entries {R = name_cmp} (map field_pair fields)) in
    any_mapped p fields ∙ both_true (list_any p (names_of fields)) (list_any p keys)
    (any_name_there p (names_of fields) keys (λ q e. sym (same_names fields q) ∙ e))
    (any_name_there p keys (names_of fields) (λ q e. same_names fields q ∙ e))

pub fields_of_type : (types : Types) (name : List ℕ) (test : List ℕ → Option FieldType → Bool) (fields : List FieldOf) → Some (fin.from_entries {R = name_cmp} (map field_pair fields)) ≡ fin.get types name
    → list_any (λ f. test (string_bytes f.name) (field_kind types name (string_bytes f.name))) fields ≡ some_field types name test
fields_of_type types name test fields e = fields_tried (λ q. test q (field_kind types name q)) fields ∙ ap (λ o. list_any (λ q. test q (field_kind types name q)) (names_in o)) e

-- groups
grouped_some : (k : Option FieldType) → groups_by k ≡ true → is_some k ≡ true
grouped_some None e = absurd (false_true e)
grouped_some (Some k) e = refl

pub groups_there : (types : Types) (name field : List ℕ) → groups_by (field_kind types name field) ≡ true → has_groups types name ≡ true
groups_there types name field e = field_there types name (λ f k. groups_by k) field (grouped_some (field_kind types name field) e) e

-- outputs
free_some : (o : Fold) (os : List OutputKind) (field : List ℕ) (k : Option FieldType) → is_free o os field k ≡ true → (k ≡ Some kind.Int) × (is_named (output_of o field) os ≡ false)
free_some o os field None e = absurd (false_true e)
free_some o os field (Some kind.Int) e = elim (is_named (output_of o field) os) as (λ b. not b ≡ true → (◌≡◌ {A = Option FieldType} (Some kind.Int) (Some kind.Int)) × (b ≡ false)) [
  | true ↦ λ f. absurd (false_true f)
  | false ↦ λ f. (refl, refl)
] e
free_some o os field (Some kind.Text) e = absurd (false_true e)
free_some o os field (Some kind.IntArray) e = absurd (false_true e)
free_some o os field (Some kind.TextArray) e = absurd (false_true e)

fold_fits : (types : Types) (name : List ℕ) (o : Fold) (field : List ℕ) → field_kind types name field ≡ Some kind.Int → OutputFits types name (output_of o field)
fold_fits types name fold.Sum field e = e
fold_fits types name fold.Min field e = e
fold_fits types name fold.Max field e = e

-- an output that may come next
abbrev pub IsNew : Types → List ℕ → List OutputKind → OutputKind → Type 0
IsNew types name os x = OutputFits types name x × (is_named x os ≡ false)

pub free_new : (types : Types) (name : List ℕ) (os : List OutputKind) (o : Fold) (field : List ℕ) → is_free o os field (field_kind types name field) ≡ true → IsNew types name os (output_of o field)
free_new types name os o field e = let r = free_some o os field (field_kind types name field) e in (fold_fits types name o field r.0, r.1)

pub new_free : (types : Types) (name : List ℕ) (os : List OutputKind) (o : Fold) (field : List ℕ) → field_kind types name field ≡ Some kind.Int → is_named (output_of o field) os ≡ false → is_free o os field (field_kind types name field) ≡ true
new_free types name os o field k e = ap (is_free o os field) k ∙ ap not e

pub new_some_free : (types : Types) (name : List ℕ) (os : List OutputKind) (o : Fold) (field : List ℕ) → field_kind types name field ≡ Some kind.Int → is_named (output_of o field) os ≡ false → some_free types name os o ≡ true
new_some_free types name os o field k e = field_there types name (is_free o os) field (ap is_some k) (new_free types name os o field k e)

some_new : (types : Types) (name : List ℕ) (os : List OutputKind) (o : Fold) → some_free types name os o ≡ true → (x : OutputKind) × IsNew types name os x
some_new types name os o e = let r = field_found types name (is_free o os) e in (output_of o r.0, free_new types name os o r.0 r.1)

pub left_new : (types : Types) (name : List ℕ) (os : List OutputKind) → some_left types name os ≡ true → (x : OutputKind) × IsNew types name os x
left_new types name os e = by_count (is_named output.Count os) refl e
  where
    by_min : (b : Bool) → some_free types name os fold.Min ≡ b → (b || some_free types name os fold.Max) ≡ true → (x : OutputKind) × IsNew types name os x
    by_min true h f = some_new types name os fold.Min h
    by_min false h f = some_new types name os fold.Max f

    by_sum : (b : Bool) → some_free types name os fold.Sum ≡ b → (b || (some_free types name os fold.Min || some_free types name os fold.Max)) ≡ true → (x : OutputKind) × IsNew types name os x
    by_sum true h f = some_new types name os fold.Sum h
    by_sum false h f = by_min (some_free types name os fold.Min) refl f

    by_count : (b : Bool) → is_named output.Count os ≡ b → (not b || (some_free types name os fold.Sum || (some_free types name os fold.Min || some_free types name os fold.Max))) ≡ true → (x : OutputKind) × IsNew types name os x
    by_count false h f = (output.Count, (tt, h))
    by_count true h f = by_sum (some_free types name os fold.Sum) refl f

pub new_left : (types : Types) (name : List ℕ) (os : List OutputKind) (x : OutputKind) → IsNew types name os x → some_left types name os ≡ true
new_left types name os output.Count h = ap (λ b. not b || (some_free types name os fold.Sum || (some_free types name os fold.Min || some_free types name os fold.Max))) h.1
new_left types name os (output.Sum field) h =
    ap (λ b. not (is_named output.Count os) || (b || (some_free types name os fold.Min || some_free types name os fold.Max))) (new_some_free types name os fold.Sum field h.0 h.1) ∙ or_right (not (is_named output.Count os))
new_left types name os (output.Min field) h =
    ap (λ b. not (is_named output.Count os) || (some_free types name os fold.Sum || (b || some_free types name os fold.Max))) (new_some_free types name os fold.Min field h.0 h.1)
    ∙ ap (λ b. not (is_named output.Count os) || b) (or_right (some_free types name os fold.Sum)) ∙ or_right (not (is_named output.Count os))
new_left types name os (output.Max field) h =
    ap (λ b. not (is_named output.Count os) || (some_free types name os fold.Sum || (some_free types name os fold.Min || b))) (new_some_free types name os fold.Max field h.0 h.1)
    ∙ ap (λ b. not (is_named output.Count os) || (some_free types name os fold.Sum || b)) (or_right (some_free types name os fold.Min))
    ∙ ap (λ b. not (is_named output.Count os) || b) (or_right (some_free types name os fold.Sum)) ∙ or_right (not (is_named output.Count os))

-- one output more
pub fit_push : (types : Types) (name : List ℕ) (os : List OutputKind) (x : OutputKind) → OutputsFit types name os → OutputFits types name x → OutputsFit types name (os ++ x ∷ [])
fit_push types name [] x f h = (h, tt)
fit_push types name (o ∷ os) x f h = (f.0, fit_push types name os x f.1 h)

pub once_push : (named os : List OutputKind) (x : OutputKind) → NamedOnce named os → is_named x (named ++ os) ≡ false → NamedOnce named (os ++ x ∷ [])
once_push named [] x n h = (ap (is_named x) (no_more named) ∙ h, tt)
  where
    no_more : (xs : List OutputKind) → xs ≡ xs ++ []
    no_more [] = refl
    no_more (y ∷ ys) = ap (λ l. y ∷ l) (no_more ys)
once_push named (o ∷ os) x n h = (n.0, once_push (named ++ o ∷ []) os x n.1 (ap (is_named x) (append_assoc named (o ∷ []) os) ∙ h))
