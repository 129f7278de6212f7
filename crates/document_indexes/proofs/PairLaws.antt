-- Fields one after the other, and names that come once.
use Rattle.std.proofs.Common.{◌≡◌, ◌<◌, ◌+◌, ℕ, zero, suc, ◌&&◌, ◌||◌, Bool, true, false, cond, List, [], ◌∷◌, length, get_or, take, refl, sym, ap, subst, ◌∙◌, arith, Option, Some, None, bytes_eq, pos}
use Rattle.std.specs.Prelude.{T}
use Rattle.std.specs.List.{list_any}
use Rattle.std.specs.Ordering.{nat_cmp, is_lt, eq_by_cmp}
use Rattle.std.specs.declared.cmp.Ordering.{Ordering}
use Rattle.std.specs.declared.cmp.Ordering.TheVariants.{Less, Equal, Greater}
use Rattle.std.specs.Cmp.{eq_by_cmp_equiv}
use Rattle.std.specs.Cmp.Lexicographic.{slice_cmp, nat_list_cmp_total}
use Rattle.std.specs.FinMap as fin
use Rattle.std.specs.FinMap.Entries.{below_all}
use Rattle.std.specs.FinMap.{entries_sorted, get-entries}
use Rattle.std.proofs.lemmas.Map.Text.{is_eq-slice_cmp}
use Rattle.proof_basics.proofs.Tests.{clash}
use Rattle.doc_types.specs.SchemaCodes.{name_cmp}
use Rattle.doc_types.specs.declared.values.FieldValue.{FieldValue}
use Rattle.doc_types.specs.declared.values.FieldValue.TheVariants.{Int}
use Rattle.documents.specs.Fields.{Contents, FieldMap, pairs}
use Rattle.documents.specs.declared.field.Field.{Field}
use Rattle.field_indexes.proofs.WordLaws.{turned, same_bytes, own_bytes}
use Rattle.document_indexes.specs.Entering.{Pairs, has_name, AreNamed, value_of, is_named, cell_of}
use Rattle.document_ids.specs.Parts.{type_of}

left_of : (a b : Bool) → T (a && b) → T a
left_of true b h = tt
left_of false b h = h

right_of : (a b : Bool) → T (a && b) → T b
right_of true b h = h
right_of false b h = absurd h

-- a name that is less than another isn't that
less_apart : (a b : List ℕ) → T (is_lt (name_cmp a b)) → bytes_eq a b ≡ false
less_apart a b h = sym (is_eq-slice_cmp a b) ∙ by_order (slice_cmp nat_cmp a b) refl h
  where
    by_order : (o : Ordering) → slice_cmp nat_cmp a b ≡ o → T (is_lt o) → eq_by_cmp (slice_cmp nat_cmp) a b ≡ false
    by_order Less e t = rw e refl
    by_order Equal e t = absurd t
    by_order Greater e t = absurd t

apart_all : (x : List ℕ) (es : Pairs) → T (below_all name_cmp x es) → has_name x es ≡ false
apart_all x [] h = refl
apart_all x (e ∷ es) h = ap (λ t. t || has_name x es) (less_apart x e.0 (left_of _ _ h)) ∙ apart_all x es (right_of _ _ h)

sorted_named : (es : Pairs) → T (fin.is_sorted name_cmp es) → AreNamed es
sorted_named [] h = tt
sorted_named (e ∷ es) h = (apart_all e.0 es (left_of _ _ h), sorted_named es (right_of _ _ h))

pub entries_named : (m : FieldMap) → AreNamed (fin.entries m)
entries_named m = sorted_named (fin.entries m) (entries_sorted m)

pub value_found : (f : List ℕ) (es : Pairs) → value_of f es ≡ fin.find name_cmp f es
value_found f [] = refl
value_found f (e ∷ es) = ap (λ t. cond t (Some e.1) (value_of f es)) (sym (is_eq-slice_cmp f e.0)) ∙ ap (cond (eq_by_cmp (slice_cmp nat_cmp) f e.0) (Some e.1)) (value_found f es)

-- ---- the fields before one

-- none of those before it has its name
pub fresh_name : (es : Pairs) → AreNamed es → (at : ℕ) (d : List ℕ × FieldValue) → at < length es → has_name (get_or es at d).0 (take at es) ≡ false
fresh_name [] h at d l = absurd (omega (arith, l))
fresh_name (e ∷ es) h zero d l = refl
fresh_name (e ∷ es) h (suc at) d l =
    (let less : at < length es = omega (arith, l) in
    ap (λ t. t || has_name (get_or es at d).0 (take at es)) (turned (get_or es at d).0 e.0 ∙ lacks es h.0 at less)
    ∙ fresh_name es h.1 at d less)
  where
    lacks : (fs : Pairs) → has_name e.0 fs ≡ false → (k : ℕ) → k < length fs → bytes_eq e.0 (get_or fs k d).0 ≡ false
    lacks [] g k less = absurd (omega (arith, less))
    lacks (x ∷ fs) g zero less = by_test (bytes_eq e.0 x.0) refl g
      where
        by_test : (t : Bool) → bytes_eq e.0 x.0 ≡ t → (t || has_name e.0 fs) ≡ false → bytes_eq e.0 x.0 ≡ false
        by_test true s j = clash refl j
        by_test false s j = s
    lacks (x ∷ fs) g (suc k) less = lacks fs (behind (bytes_eq e.0 x.0) g) k (omega (arith, less))
      where
        behind : (t : Bool) → (t || has_name e.0 fs) ≡ false → has_name e.0 fs ≡ false
        behind true j = clash refl j
        behind false j = j

pub none_named : (f : List ℕ) (es : Pairs) → has_name f es ≡ false → value_of f es ≡ None
none_named f [] h = refl
none_named f (e ∷ es) h = by_test (bytes_eq f e.0) h (none_named f es)
  where
    by_test : (t : Bool) → (t || has_name f es) ≡ false → (has_name f es ≡ false → value_of f es ≡ None) → cond t (Some e.1) (value_of f es) ≡ None
    by_test true j ih = clash refl j
    by_test false j ih = ih j

-- the value of one of them
pub own_value : (es : Pairs) → AreNamed es → (at : ℕ) (d : List ℕ × FieldValue) → at < length es → value_of (get_or es at d).0 es ≡ Some (get_or es at d).1
own_value [] h at d l = absurd (omega (arith, l))
own_value (e ∷ es) h zero d l = ap (λ t. cond t (Some e.1) (value_of e.0 es)) (own_bytes e.0)
own_value (e ∷ es) h (suc at) d l =
    (let less : at < length es = omega (arith, l) in
    ap (λ t. cond t (Some e.1) (value_of (get_or es at d).0 es)) (behind_apart at less) ∙ own_value es h.1 at d less)
  where
    behind_apart : (k : ℕ) → k < length es → bytes_eq (get_or es k d).0 e.0 ≡ false
    behind_apart k less = turned (get_or es k d).0 e.0 ∙ go es h.0 k less
      where
        go : (fs : Pairs) → has_name e.0 fs ≡ false → (j : ℕ) → j < length fs → bytes_eq e.0 (get_or fs j d).0 ≡ false
        go [] g j l = absurd (omega (arith, l))
        go (x ∷ fs) g zero l = first (bytes_eq e.0 x.0) refl g
          where
            first : (t : Bool) → bytes_eq e.0 x.0 ≡ t → (t || has_name e.0 fs) ≡ false → bytes_eq e.0 x.0 ≡ false
            first true s w = clash refl w
            first false s w = s
        go (x ∷ fs) g (suc j) l = go fs (rest (bytes_eq e.0 x.0) g) j (omega (arith, l))
          where
            rest : (t : Bool) → (t || has_name e.0 fs) ≡ false → has_name e.0 fs ≡ false
            rest true w = clash refl w
            rest false w = w

-- and one field more
pub value_more : (f : List ℕ) (es : Pairs) (at : ℕ) (d : List ℕ × FieldValue) → at < length es
    → value_of f (take (suc at) es) ≡ cond (has_name f (take at es)) (value_of f (take at es)) (cond (bytes_eq f (get_or es at d).0) (Some (get_or es at d).1) None)
value_more f [] at d l = absurd (omega (arith, l))
value_more f (e ∷ es) zero d l = refl
value_more f (e ∷ es) (suc at) d l = by_test (bytes_eq f e.0) (value_more f es at d (omega (arith, l)))
  where
    last : Option FieldValue
    last = cond (bytes_eq f (get_or es at d).0) (Some (get_or es at d).1) None

    by_test : (t : Bool) → value_of f (take (suc at) es) ≡ cond (has_name f (take at es)) (value_of f (take at es)) last
        → cond t (Some e.1) (value_of f (take (suc at) es)) ≡ cond (t || has_name f (take at es)) (cond t (Some e.1) (value_of f (take at es))) last
    by_test true ih = refl
    by_test false ih = ih

-- ---- the pairs of a list of fields

abbrev pub no_pair : List ℕ × FieldValue
no_pair = ([], Int (pos 0))

pub longer : (fields : List Field) → length (pairs fields) ≡ length fields
longer [] = refl
longer (f ∷ fields) = ap suc (longer fields)

pair_at : (fields : List Field) (at : ℕ) (d : Field) → at < length fields → get_or (pairs fields) at no_pair ≡ ((get_or fields at d).name, (get_or fields at d).value)
pair_at [] at d l = absurd (omega (arith, l))
pair_at (f ∷ fields) zero d l = refl
pair_at (f ∷ fields) (suc at) d l = pair_at fields at d (omega (arith, l))

pub name_at : (fields : List Field) (at : ℕ) (x : Field) → at < length fields → x ≡ get_or fields at x → x.name ≡ (get_or (pairs fields) at no_pair).0
name_at fields at x l e = ap (λ f. f.name) e ∙ sym (ap (λ p. p.0) (pair_at fields at x l))

pub value_at : (fields : List Field) (at : ℕ) (x : Field) → at < length fields → x ≡ get_or fields at x → x.value ≡ (get_or (pairs fields) at no_pair).1
value_at fields at x l e = ap (λ f. f.value) e ∙ sym (ap (λ p. p.1) (pair_at fields at x l))

-- the names before one lack it
pub not_before : (es : Pairs) → AreNamed es → (at : ℕ) → at < length es → (fd : List ℕ) → fd ≡ (get_or es at no_pair).0 → (f : List ℕ) → bytes_eq fd f ≡ true → has_name f (take at es) ≡ false
not_before es h at l fd e f g = ap (λ y. has_name y (take at es)) (sym (same_bytes fd f g) ∙ e) ∙ fresh_name es h at no_pair l

pub value_grows : (f : List ℕ) (es : Pairs) (at : ℕ) (fd : List ℕ) (v : FieldValue) → fd ≡ (get_or es at no_pair).0 → v ≡ (get_or es at no_pair).1 → at < length es
    → cond (has_name f (take at es)) (value_of f (take at es)) (cond (bytes_eq fd f) (Some v) None) ≡ value_of f (take (at + 1) es)
value_grows f es at fd v e g l =
    ap (λ o. cond (has_name f (take at es)) (value_of f (take at es)) o)
    (ap (λ t. cond t (Some v) None) (turned fd f ∙ ap (bytes_eq f) e) ∙ ap (λ w. cond (bytes_eq f (get_or es at no_pair).0) (Some w) None) g)
    ∙ sym (value_more f es at no_pair l)
    ∙ (let one : suc at ≡ at + 1 = omega arith in ap (λ n. value_of f (take n es)) one)

pub value_get : (m : FieldMap) (f : List ℕ) → value_of f (fin.entries m) ≡ fin.get m f
value_get m f = value_found f (fin.entries m) ∙ sym (get-entries m f)

-- what a document has in a field of a type
pub cell_there : (d : Contents) (name n f : List ℕ) (es : Pairs) → name ≡ type_of d.id → es ≡ fin.entries d.fields → cell_of n f (Some d) ≡ cond (bytes_eq name n) (value_of f es) None
cell_there d name n f es e g = ap (λ y. cond (bytes_eq y n) (fin.get d.fields f) None) (sym e) ∙ ap (λ o. cond (bytes_eq name n) o None) (sym (value_get d.fields f) ∙ ap (value_of f) (sym g))

pub cell_absent : (d : Contents) (name n f : List ℕ) (es : Pairs) → name ≡ type_of d.id → es ≡ fin.entries d.fields → is_named name es n f ≡ false → cell_of n f (Some d) ≡ None
cell_absent d name n f es e g h = cell_there d name n f es e g ∙ by_tests (bytes_eq name n) (has_name f es) refl h
  where
    by_tests : (t u : Bool) → has_name f es ≡ u → (t && u) ≡ false → cond t (value_of f es) None ≡ None
    by_tests true true k h = clash refl h
    by_tests true false k h = none_named f es k
    by_tests false u k h = refl
