-- Cells of fields, after a change of one field.
use Rattle.std.proofs.Common.{◌≡◌, ◌≢◌, ◌⊎◌, inl, inr, ℕ, ◌==◌, ◌&&◌, ◌||◌, Bool, true, false, cond, List, [], ◌∷◌, refl, sym, ap, ap₂, subst, ◌∙◌, Option, Some, None, option_map, option_and_then, bytes_eq, arith}
use Rattle.std.specs.Option.{IfSome}
use Rattle.std.specs.FinMap as fin
use Rattle.std.specs.FinMap.{get-empty}
use Rattle.std.specs.Ordering.{nat_cmp}
use Rattle.doc_types.specs.Values.{kind_of}
use Rattle.doc_types.specs.declared.values.FieldType.{FieldType}
use Rattle.doc_types.specs.declared.values.FieldValue.{FieldValue}
use Rattle.std.proofs.lemmas.Bool.Decides.{nat_tests}
use Rattle.proof_basics.proofs.Tests.{clash}
use Rattle.proof_basics.proofs.Options.{none_some, some_same}
use Rattle.local_ids.proofs.KeyLaws.{get_with, get_without}
use Rattle.local_ids.proofs.MoveLaws.{get_moved}
use Rattle.attribute_columns.specs.Columns.{Held, with_value, without_value, with_moved, empty_column}
use Rattle.field_indexes.specs.Fields.{Fields, cell, is_field, entered}
use Rattle.field_indexes.proofs.WordLaws.{same_bytes, own_bytes, turned}
use Rattle.document_indexes.specs.Entering.{Pairs, value_of, kind_at, DoFit, ComesFrom}

value_in : Option Held → ℕ → Option FieldValue
value_in o k = option_and_then (λ h. fin.get h.values k) o

-- the field of the names that were changed
same_field : (fields : Fields) (name fd n f : List ℕ) → bytes_eq name n ≡ true → bytes_eq fd f ≡ true → fields name fd ≡ fields n f
same_field fields name fd n f e g = ap₂ fields (same_bytes name n e) (same_bytes fd f g)

pub cell_changed : (old new : Fields) (name fd : List ℕ) (p : Option Held) (k : ℕ) (r : Option FieldValue → Option FieldValue)
    → ((n f : List ℕ) → new n f ≡ cond (is_field name fd n f) p (old n f)) → option_and_then (λ h. fin.get h.values k) p ≡ r (cell old name fd k)
    → (n f : List ℕ) → cell new n f k ≡ cond (is_field name fd n f) (r (cell old n f k)) (cell old n f k)
cell_changed old new name fd p k r a b n f = ap (λ o. option_and_then (λ h. fin.get h.values k) o) (a n f) ∙ by_tests (bytes_eq name n) (bytes_eq fd f) refl refl
  where
    by_tests : (t u : Bool) → bytes_eq name n ≡ t → bytes_eq fd f ≡ u → option_and_then (λ h. fin.get h.values k) (cond (t && u) p (old n f)) ≡ cond (t && u) (r (cell old n f k)) (cell old n f k)
    by_tests true true e g = b ∙ ap (λ o. r (option_and_then (λ h. fin.get h.values k) o)) (same_field old name fd n f e g)
    by_tests true false e g = refl
    by_tests false u e g = refl

left_value : (l k : ℕ) (o : Option Held) → option_and_then (λ h. fin.get h.values k) (option_map (without_value l) o) ≡ cond (k == l) None (option_and_then (λ h. fin.get h.values k) o)
left_value l k None = by_test (k == l)
  where
    by_test : (t : Bool) → ◌≡◌ {A = Option FieldValue} None (cond t None None)
    by_test true = refl
    by_test false = refl
left_value l k (Some h) = get_without h.values l k

pub cell_left : (old new : Fields) (name fd : List ℕ) (l : ℕ) → ((n f : List ℕ) → new n f ≡ cond (is_field name fd n f) (option_map (without_value l) (old name fd)) (old n f))
    → (n f : List ℕ) (k : ℕ) → cell new n f k ≡ cond (is_field name fd n f) (cond (k == l) None (cell old n f k)) (cell old n f k)
cell_left old new name fd l a n f k = cell_changed old new name fd (option_map (without_value l) (old name fd)) k (λ o. cond (k == l) None o) a (left_value l k (old name fd)) n f

entered_value : (l k : ℕ) (v : FieldValue) (o : Option Held) → fin.get (entered l v o).values k ≡ cond (k == l) (Some v) (option_and_then (λ h. fin.get h.values k) o)
entered_value l k v None = get_with fin.empty l v k ∙ ap (cond (k == l) (Some v)) (get-empty nat_cmp k)
entered_value l k v (Some h) = get_with h.values l v k

pub cell_entered : (old new : Fields) (name fd : List ℕ) (l : ℕ) (v : FieldValue) → ((n f : List ℕ) → new n f ≡ cond (is_field name fd n f) (Some (entered l v (old name fd))) (old n f))
    → (n f : List ℕ) (k : ℕ) → cell new n f k ≡ cond (is_field name fd n f) (cond (k == l) (Some v) (cell old n f k)) (cell old n f k)
cell_entered old new name fd l v a n f k = cell_changed old new name fd (Some (entered l v (old name fd))) k (λ o. cond (k == l) (Some v) o) a (entered_value l k v (old name fd)) n f

moved_value : (x z k : ℕ) (o : Option Held) → option_and_then (λ h. fin.get h.values z) o ≡ None → z ≢ x
    → option_and_then (λ h. fin.get h.values k) (option_map (with_moved x z) o) ≡ cond (k == z) (option_and_then (λ h. fin.get h.values x) o) (cond (k == x) None (option_and_then (λ h. fin.get h.values k) o))
moved_value x z k None free other = by_tests (k == z) (k == x)
  where
    by_tests : (t u : Bool) → ◌≡◌ {A = Option FieldValue} None (cond t None (cond u None None))
    by_tests true u = refl
    by_tests false true = refl
    by_tests false false = refl
moved_value x z k (Some h) free other = get_moved h.values x z k free other

pub cell_moved : (old new : Fields) (name fd : List ℕ) (x z : ℕ) → cell old name fd z ≡ None → z ≢ x → ((n f : List ℕ) → new n f ≡ cond (is_field name fd n f) (option_map (with_moved x z) (old name fd)) (old n f))
    → (n f : List ℕ) (k : ℕ) → cell new n f k ≡ cond (is_field name fd n f) (cond (k == z) (cell old n f x) (cond (k == x) None (cell old n f k))) (cell old n f k)
cell_moved old new name fd x z free other a n f k = ap (λ o. option_and_then (λ h. fin.get h.values k) o) (a n f) ∙ by_tests (bytes_eq name n) (bytes_eq fd f) refl refl
  where
    by_tests : (t u : Bool) → bytes_eq name n ≡ t → bytes_eq fd f ≡ u
        → option_and_then (λ h. fin.get h.values k) (cond (t && u) (option_map (with_moved x z) (old name fd)) (old n f)) ≡ cond (t && u) (cond (k == z) (cell old n f x) (cond (k == x) None (cell old n f k))) (cell old n f k)
    by_tests true true e g = moved_value x z k (old name fd) free other ∙ ap (λ (o : Option Held). cond (k == z) (option_and_then (λ h. fin.get h.values x) o) (cond (k == x) None (option_and_then (λ h. fin.get h.values k) o))) (same_field old name fd n f e g)
    by_tests true false e g = refl
    by_tests false u e g = refl

-- ---- kinds

same_kinds : (h : Held → Held) → ((x : Held) → (h x).kind ≡ x.kind) → (old new : Fields) (name fd : List ℕ) → ((n f : List ℕ) → new n f ≡ cond (is_field name fd n f) (option_map h (old name fd)) (old n f))
    → (n f : List ℕ) → kind_at new n f ≡ kind_at old n f
same_kinds h same old new name fd a n f = ap (option_map (λ x. x.kind)) (a n f) ∙ by_tests (bytes_eq name n) (bytes_eq fd f) refl refl
  where
    by_field : (o : Option Held) → option_map (λ x. x.kind) (option_map h o) ≡ option_map (λ x. x.kind) o
    by_field None = refl
    by_field (Some x) = ap Some (same x)

    by_tests : (t u : Bool) → bytes_eq name n ≡ t → bytes_eq fd f ≡ u → option_map (λ x. x.kind) (cond (t && u) (option_map h (old name fd)) (old n f)) ≡ option_map (λ x. x.kind) (old n f)
    by_tests true true e g = by_field (old name fd) ∙ ap (option_map (λ x. x.kind)) (same_field old name fd n f e g)
    by_tests true false e g = refl
    by_tests false u e g = refl

pub kind_left : (old new : Fields) (name fd : List ℕ) (l : ℕ) → ((n f : List ℕ) → new n f ≡ cond (is_field name fd n f) (option_map (without_value l) (old name fd)) (old n f)) → (n f : List ℕ) → kind_at new n f ≡ kind_at old n f
kind_left old new name fd l a = same_kinds (without_value l) (λ x. refl) old new name fd a

pub kind_moved : (old new : Fields) (name fd : List ℕ) (x z : ℕ) → ((n f : List ℕ) → new n f ≡ cond (is_field name fd n f) (option_map (with_moved x z) (old name fd)) (old n f)) → (n f : List ℕ) → kind_at new n f ≡ kind_at old n f
kind_moved old new name fd x z a = same_kinds (with_moved x z) (λ y. refl) old new name fd a

-- ---- one field more of several

-- the fields so far, and one more
pub named_more : (name : List ℕ) (n f fd : List ℕ) (before : Bool) → (bytes_eq name n && (before || bytes_eq f fd)) ≡ ((bytes_eq name n && before) || is_field name fd n f)
named_more name n f fd before = ap (λ t. bytes_eq name n && (before || t)) (turned f fd) ∙ by_tests (bytes_eq name n) before (bytes_eq fd f)
  where
    by_tests : (t b u : Bool) → (t && (b || u)) ≡ ((t && b) || (t && u))
    by_tests true b u = refl
    by_tests false b u = refl

pub step_left : {X : Type 0} (here named fresh : Bool) (new cur old : Option X) → new ≡ cond fresh (cond here None cur) cur → cur ≡ cond (here && named) None old → new ≡ cond (here && (named || fresh)) None old
step_left true true true new cur old a b = a
step_left true true false new cur old a b = a ∙ b
step_left true false true new cur old a b = a
step_left true false false new cur old a b = a ∙ b
step_left false named true new cur old a b = a ∙ b
step_left false named false new cur old a b = a ∙ b

pub step_moved : {X : Type 0} (named fresh : Bool) (new a m cur old : Option X) → new ≡ cond fresh a cur → cur ≡ cond named m old → (fresh ≡ true → a ≡ m) → new ≡ cond (named || fresh) m old
step_moved true true new a m cur old e f g = e ∙ g refl
step_moved true false new a m cur old e f g = e ∙ f
step_moved false true new a m cur old e f g = e ∙ g refl
step_moved false false new a m cur old e f g = e ∙ f

-- a field without a value there
pub if_none : (o : Option Held) (k : ℕ) → option_and_then (λ h. fin.get h.values k) o ≡ None → IfSome o (λ h. fin.get h.values k ≡ None)
if_none None k e = tt
if_none (Some h) k e = e

pub both_names : (name fd n f : List ℕ) → is_field name fd n f ≡ true → (bytes_eq name n ≡ true) × (bytes_eq fd f ≡ true)
both_names name fd n f e = by_tests (bytes_eq name n) (bytes_eq fd f) refl refl e
  where
    by_tests : (t u : Bool) → bytes_eq name n ≡ t → bytes_eq fd f ≡ u → (t && u) ≡ true → (bytes_eq name n ≡ true) × (bytes_eq fd f ≡ true)
    by_tests true true e g h = (e, g)
    by_tests true false e g h = clash h refl
    by_tests false u e g h = clash h refl

-- ---- kinds of fields that come

pub kind_fits : (old cur : Fields) (name fd : List ℕ) (es : Pairs) (v : FieldValue) → value_of fd es ≡ Some v → DoFit old name es → IfSome (cur name fd) (ComesFrom old name es name fd) → IfSome (cur name fd) (λ h. kind_of v ≡ h.kind)
kind_fits old cur name fd es v own fit from = by_field (cur name fd) from
  where
    known : IfSome (old name fd) (λ h. kind_of v ≡ h.kind)
    known = subst (λ o. IfSome o (λ w. IfSome (old name fd) (λ h. kind_of w ≡ h.kind))) own (fit fd)

    by_old : (o : Option Held) (h : Held) → IfSome o (λ g. kind_of v ≡ g.kind) → option_map (λ g. g.kind) o ≡ Some h.kind → kind_of v ≡ h.kind
    by_old None h k e = absurd (none_some h.kind e)
    by_old (Some g) h k e = k ∙ some_same g.kind h.kind e

    by_field : (o : Option Held) → IfSome o (ComesFrom old name es name fd) → IfSome o (λ h. kind_of v ≡ h.kind)
    by_field None k = tt
    by_field (Some h) (inl e) = by_old (old name fd) h known e
    by_field (Some h) (inr e) = some_same (kind_of v) h.kind (sym (ap (option_map kind_of) own) ∙ e.1)

pub kind_entered : (old cur new : Fields) (name fd : List ℕ) (es : Pairs) (l : ℕ) (v : FieldValue) → value_of fd es ≡ Some v → ((n f : List ℕ) → IfSome (cur n f) (ComesFrom old name es n f))
    → ((n f : List ℕ) → new n f ≡ cond (is_field name fd n f) (Some (entered l v (cur name fd))) (cur n f)) → (n f : List ℕ) → IfSome (new n f) (ComesFrom old name es n f)
kind_entered old cur new name fd es l v own from a n f = subst (λ o. IfSome o (ComesFrom old name es n f)) (sym (a n f)) (by_test (is_field name fd n f) refl)
  where
    here : (o : Option Held) → IfSome o (ComesFrom old name es name fd) → ComesFrom old name es name fd (entered l v o)
    here None k = inr (own_bytes name, ap (option_map kind_of) own)
    here (Some h) k = k

    by_test : (t : Bool) → is_field name fd n f ≡ t → IfSome (cond t (Some (entered l v (cur name fd))) (cur n f)) (ComesFrom old name es n f)
    by_test true e =
        (let both = both_names name fd n f e in
        subst (λ y. ComesFrom old name es n y (entered l v (cur name fd))) (same_bytes fd f both.1)
        (subst (λ y. ComesFrom old name es y fd (entered l v (cur name fd))) (same_bytes name n both.0) (here (cur name fd) (from name fd))))
    by_test false e = from n f

pub kind_back : (old cur new : Fields) (name : List ℕ) (es : Pairs) (n f : List ℕ) → kind_at new n f ≡ kind_at cur n f → IfSome (cur n f) (ComesFrom old name es n f) → IfSome (new n f) (ComesFrom old name es n f)
kind_back old cur new name es n f e k = by_fields (new n f) (cur n f) e k
  where
    by_fields : (o p : Option Held) → option_map (λ h. h.kind) o ≡ option_map (λ h. h.kind) p → IfSome p (ComesFrom old name es n f) → IfSome o (ComesFrom old name es n f)
    by_fields None p e k = tt
    by_fields (Some h) None e k = absurd (none_some h.kind (sym e))
    by_fields (Some h) (Some g) e (inl i) = inl (i ∙ sym e)
    by_fields (Some h) (Some g) e (inr i) = inr (i.0, i.1 ∙ sym e)

pub kind_known : (old : Fields) (name : List ℕ) (es : Pairs) (n f : List ℕ) → IfSome (old n f) (ComesFrom old name es n f)
kind_known old name es n f = by_field (old n f) refl
  where
    by_field : (o : Option Held) → old n f ≡ o → IfSome o (ComesFrom old name es n f)
    by_field None e = tt
    by_field (Some h) e = inl (ap (option_map (λ g. g.kind)) e)

-- ---- a value more of several

pub step_entered : {X : Type 0} (here same own before : Bool) (new v cur last old : Option X) → new ≡ cond (same && own) (cond here v cur) cur → cur ≡ cond (here && same) last old
    → (own ≡ true → before ≡ false) → (before ≡ false → last ≡ None) → new ≡ cond (here && same) (cond before last (cond own v None)) old
step_entered true true true true new v cur last old a b c d = (let e : true ≡ false = c refl in clash refl e)
step_entered true true true false new v cur last old a b c d = a
step_entered true true false true new v cur last old a b c d = a ∙ b
step_entered true true false false new v cur last old a b c d = a ∙ b ∙ d refl
step_entered true false own before new v cur last old a b c d = a ∙ b
step_entered false same true before new v cur last old a b c d = by_test same a
  where
    by_test : (t : Bool) → new ≡ cond (t && true) cur cur → new ≡ old
    by_test true e = e ∙ b
    by_test false e = e ∙ b
step_entered false same false before new v cur last old a b c d = by_test same a
  where
    by_test : (t : Bool) → new ≡ cond (t && false) cur cur → new ≡ old
    by_test true e = e ∙ b
    by_test false e = e ∙ b

pub step_back : {X : Type 0} (here same before : Bool) (new cur last old : Option X) → new ≡ cond (here && (same && before)) None cur → cur ≡ cond (here && same) last old
    → (here ≡ true → old ≡ None) → (before ≡ false → last ≡ None) → new ≡ old
step_back true true true new cur last old a b c d = a ∙ sym (c refl)
step_back true true false new cur last old a b c d = a ∙ b ∙ d refl ∙ sym (c refl)
step_back true false before new cur last old a b c d = a ∙ b
step_back false same before new cur last old a b c d = a ∙ b

pub cell_same : (old new : Fields) (n f : List ℕ) (k : ℕ) → new n f ≡ old n f → cell new n f k ≡ cell old n f k
cell_same old new n f k e = ap (λ o. option_and_then (λ h. fin.get h.values k) o) e

abbrev pub kind_in_field : Option Held → Option FieldType
kind_in_field o = option_map (λ h. h.kind) o

pub same_number : (k l : ℕ) → (k == l) ≡ true → k ≡ l
same_number k l e = grind (arith, nat_tests)

pub nothing_yet : (here same : Bool) (old : Option FieldValue) → (here ≡ true → old ≡ None) → cond (here && same) None old ≡ old
nothing_yet true true old f = sym (f refl)
nothing_yet true false old f = refl
nothing_yet false same old f = refl
