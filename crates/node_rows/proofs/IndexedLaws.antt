-- Indexes of the documents at places, after a change of one place.
use Rattle.std.proofs.Common.{◌≡◌, ◌≢◌, inl, inr, ℕ, ◌==◌, Bool, true, false, cond, List, refl, sym, ap, subst, ◌∙◌, Option, Some, None, option_map, bytes_eq}
use Rattle.std.specs.Option.{IfSome}
use Rattle.std.specs.List.{Contains}
use Rattle.std.specs.FinMap as fin
use Rattle.std.specs.FinMap.{get-retain_keys, slice_cmp-IsAntisymmetric, nat_cmp-IsAntisymmetric}
use Rattle.proof_basics.proofs.Numbers.{same-nat, apart}
use Rattle.proof_basics.proofs.Options.{none_some, some_same}
use Rattle.proof_basics.proofs.Tests.{clash}
use Rattle.doc_types.specs.SchemaCodes.{Types}
use Rattle.doc_types.specs.Values.{kind_of}
use Rattle.doc_types.specs.declared.values.FieldType.{FieldType}
use Rattle.doc_types.specs.declared.values.FieldType.TheVariants as kind
use Rattle.doc_types.specs.declared.values.FieldValue.{FieldValue}
use Rattle.document_ids.specs.Parts.{type_of}
use Rattle.documents.specs.Fields.{Contents}
use Rattle.local_ids.specs.Rising.{IsRising, with_local, without_local, moved_local}
use Rattle.word_index.specs.Index.{Index, list_of}
use Rattle.attribute_columns.specs.Columns.{Held}
use Rattle.field_indexes.specs.Fields.{Fields, cell}
use Rattle.document_indexes.specs.Entering.{DoFit, ComesFrom, cell_of, kind_at}
use Rattle.document_indexes.proofs.PairLaws.{value_get}
use Rattle.document_rows.specs.Kinds.{same_kind}
use Rattle.document_rows.specs.Rows.{fits, kind_in, fitted}
use Rattle.document_rows.specs.Reading.{is_of_type}
use Rattle.document_rows.proofs.RowLaws.{same_id}
use Rattle.node_rows.specs.Kept.{Board, with_at, Tells, passes, IsIndexed}
use Rattle.node_rows.proofs.ListLaws.{rises_with, rises_without, rises_moved, tells_with, tells_without, tells_moved}

-- ---- a document whose values are of their kinds

kinds_same : (a b : FieldType) → same_kind a b ≡ true → a ≡ b
kinds_same kind.Int kind.Int h = refl
kinds_same kind.Text kind.Text h = refl
kinds_same kind.IntArray kind.IntArray h = refl
kinds_same kind.TextArray kind.TextArray h = refl
kinds_same kind.Int kind.Text h = clash h refl
kinds_same kind.Int kind.IntArray h = clash h refl
kinds_same kind.Int kind.TextArray h = clash h refl
kinds_same kind.Text kind.Int h = clash h refl
kinds_same kind.Text kind.IntArray h = clash h refl
kinds_same kind.Text kind.TextArray h = clash h refl
kinds_same kind.IntArray kind.Int h = clash h refl
kinds_same kind.IntArray kind.Text h = clash h refl
kinds_same kind.IntArray kind.TextArray h = clash h refl
kinds_same kind.TextArray kind.Int h = clash h refl
kinds_same kind.TextArray kind.Text h = clash h refl
kinds_same kind.TextArray kind.IntArray h = clash h refl

fits_same : (o : Option FieldType) (v : FieldValue) → fits o (Some v) ≡ true → o ≡ Some (kind_of v)
fits_same None v h = clash h refl
fits_same (Some k) v h = ap Some (kinds_same k (kind_of v) h)

pub fits_there : (types : Types) (d : Contents) → fitted types d ≡ d → (f : List ℕ) (v : FieldValue) → fin.get d.fields f ≡ Some v → kind_in (fin.get types (type_of d.id)) f ≡ Some (kind_of v)
fits_there types d whole f v h = fits_same (kind_in (fin.get types (type_of d.id)) f) v (by_test (fits (kind_in (fin.get types (type_of d.id)) f) (Some v)) refl)
  where
    fits_at : List ℕ → Bool
    fits_at g = fits (kind_in (fin.get types (type_of d.id)) g) (fin.get d.fields g)

    kept : fin.get d.fields f ≡ cond (fits_at f) (fin.get d.fields f) None
    kept = ap (λ (c : Contents). fin.get c.fields f) (sym whole) ∙ get-retain_keys d.fields fits_at f (λ x e. ap fits_at (sym (slice_cmp-IsAntisymmetric nat_cmp-IsAntisymmetric f x e)))

    by_test : (t : Bool) → fits (kind_in (fin.get types (type_of d.id)) f) (Some v) ≡ t → t ≡ true
    by_test true e = refl
    by_test false e = absurd (none_some v (sym (sym h ∙ kept ∙ ap (λ t. cond t (fin.get d.fields f) None) (ap (fits (kind_in (fin.get types (type_of d.id)) f)) h ∙ e))))

pub do_fit : (types : Types) (g : Board) (lists : Index) (fields : Fields) (d : Contents) → IsIndexed types g lists fields → fitted types d ≡ d → DoFit fields (type_of d.id) (fin.entries d.fields)
do_fit types g lists fields d is whole f = subst (λ o. IfSome o (λ v. IfSome (fields (type_of d.id) f) (λ h. kind_of v ≡ h.kind))) (sym (value_get d.fields f)) (by_value (fin.get d.fields f) refl)
  where
    by_field : (v : FieldValue) → kind_in (fin.get types (type_of d.id)) f ≡ Some (kind_of v) → (o : Option Held) → IfSome (option_map (λ h. h.kind) o) (λ k. kind_in (fin.get types (type_of d.id)) f ≡ Some k) → IfSome o (λ h. kind_of v ≡ h.kind)
    by_field v e None k = tt
    by_field v e (Some h) k = some_same (kind_of v) h.kind (sym e ∙ k)

    by_value : (o : Option FieldValue) → fin.get d.fields f ≡ o → IfSome o (λ v. IfSome (fields (type_of d.id) f) (λ h. kind_of v ≡ h.kind))
    by_value None e = tt
    by_value (Some v) e = by_field v (fits_there types d whole f v e) (fields (type_of d.id) f) (is.kinds (type_of d.id) f)

pub kinds_come : (types : Types) (old new : Fields) (d : Contents) (n f : List ℕ) → fitted types d ≡ d → IfSome (kind_at old n f) (λ k. kind_in (fin.get types n) f ≡ Some k)
    → IfSome (new n f) (ComesFrom old (type_of d.id) (fin.entries d.fields) n f) → IfSome (kind_at new n f) (λ k. kind_in (fin.get types n) f ≡ Some k)
kinds_come types old new d n f whole k from = by_field (new n f) from
  where
    own : (o : Option FieldValue) (h : FieldType) → fin.get d.fields f ≡ o → option_map kind_of o ≡ Some h → kind_in (fin.get types (type_of d.id)) f ≡ Some h
    own None h e i = absurd (none_some h i)
    own (Some v) h e i = fits_there types d whole f v e ∙ i

    by_field : (o : Option Held) → IfSome o (ComesFrom old (type_of d.id) (fin.entries d.fields) n f) → IfSome (option_map (λ h. h.kind) o) (λ k. kind_in (fin.get types n) f ≡ Some k)
    by_field None i = tt
    by_field (Some h) (inl e) = subst (λ o. IfSome o (λ k. kind_in (fin.get types n) f ≡ Some k)) e k
    by_field (Some h) (inr e) = subst (λ y. kind_in (fin.get types y) f ≡ Some h.kind) (same_id (type_of d.id) n e.0) (own (fin.get d.fields f) h.kind refl (ap (option_map kind_of) (sym (value_get d.fields f)) ∙ e.1))

-- ---- one place

cell_set : (n f : List ℕ) (l : ℕ) (r : Option Contents) (g : Board) (k : ℕ) → cond (k == l) (cell_of n f r) (cell_of n f (g k)) ≡ cell_of n f (with_at l r g k)
cell_set n f l r g k = by_test (k == l)
  where
    by_test : (t : Bool) → cond t (cell_of n f r) (cell_of n f (g k)) ≡ cell_of n f (cond t r (g k))
    by_test true = refl
    by_test false = refl

pub at_own : (n : ℕ) (r : Option Contents) (g : Board) → with_at n r g n ≡ r
at_own n r g = ap (λ t. cond t r (g n)) (same-nat n)

pub at_other : (n k : ℕ) (r : Option Contents) (g : Board) → k ≢ n → with_at n r g k ≡ g k
at_other n k r g h = ap (λ t. cond t r (g k)) (apart k n h)

pub entered : (types : Types) (g : Board) (lists lists' : Index) (fields fields' : Fields) (d : Contents) (l : ℕ) → IsIndexed types g lists fields → fitted types d ≡ d → g l ≡ None
    → ((name : List ℕ) → list_of name lists' ≡ cond (bytes_eq (type_of d.id) name) (with_local l (list_of name lists)) (list_of name lists))
    → ((n f : List ℕ) (k : ℕ) → cell fields' n f k ≡ cond (k == l) (cell_of n f (Some d)) (cell fields n f k))
    → ((n f : List ℕ) → IfSome (fields' n f) (ComesFrom fields (type_of d.id) (fin.entries d.fields) n f))
    → IsIndexed types (with_at l (Some d) g) lists' fields'
entered types g lists lists' fields fields' d l is whole free a b c = record {
  rise = λ name. subst IsRising (sym (a name)) (rises_with (bytes_eq (type_of d.id) name) l (list_of name lists) (is.rise name));
  tell = λ name. subst (Tells (is_of_type name) (with_at l (Some d) g)) (sym (a name)) (tells_with (is_of_type name) g d (list_of name lists) l (is.rise name) (is.tell name) free);
  cells = λ n f k. b n f k ∙ ap (cond (k == l) (cell_of n f (Some d))) (is.cells n f k) ∙ cell_set n f l (Some d) g k;
  kinds = λ n f. kinds_come types fields fields' d n f whole (is.kinds n f) (c n f);
}

-- an entering that failed
pub failed : (types : Types) (g : Board) (lists lists' : Index) (fields fields' : Fields) (d : Contents) → IsIndexed types g lists fields → fitted types d ≡ d
    → ((name : List ℕ) → list_of name lists' ≡ list_of name lists)
    → ((n f : List ℕ) (k : ℕ) → cell fields' n f k ≡ cell fields n f k)
    → ((n f : List ℕ) → IfSome (fields' n f) (ComesFrom fields (type_of d.id) (fin.entries d.fields) n f))
    → IsIndexed types g lists' fields'
failed types g lists lists' fields fields' d is whole a b c = record {
  rise = λ name. subst IsRising (sym (a name)) (is.rise name);
  tell = λ name. subst (Tells (is_of_type name) g) (sym (a name)) (is.tell name);
  cells = λ n f k. b n f k ∙ is.cells n f k;
  kinds = λ n f. kinds_come types fields fields' d n f whole (is.kinds n f) (c n f);
}

pub left : (types : Types) (g : Board) (lists lists' : Index) (fields fields' : Fields) (d : Contents) (l : ℕ) → IsIndexed types g lists fields → g l ≡ Some d
    → ((name : List ℕ) → list_of name lists' ≡ cond (bytes_eq (type_of d.id) name) (without_local l (list_of name lists)) (list_of name lists))
    → ((n f : List ℕ) (k : ℕ) → cell fields' n f k ≡ cond (k == l) None (cell fields n f k))
    → ((n f : List ℕ) → kind_at fields' n f ≡ kind_at fields n f)
    → IsIndexed types (with_at l None g) lists' fields'
left types g lists lists' fields fields' d l is own a b c = record {
  rise = λ name. subst IsRising (sym (a name)) (rises_without (bytes_eq (type_of d.id) name) l (list_of name lists) (is.rise name));
  tell = λ name. subst (Tells (is_of_type name) (with_at l None g)) (sym (a name)) (tells_without (is_of_type name) g d (list_of name lists) l (is.tell name) own);
  cells = λ n f k. b n f k ∙ ap (cond (k == l) None) (is.cells n f k) ∙ cell_set n f l None g k;
  kinds = λ n f. subst (λ o. IfSome o (λ k. kind_in (fin.get types n) f ≡ Some k)) (sym (c n f)) (is.kinds n f);
}

pub moved : (types : Types) (g : Board) (lists lists' : Index) (fields fields' : Fields) (d : Contents) (x z : ℕ) → IsIndexed types g lists fields → g x ≡ Some d → g z ≡ None → z ≢ x
    → ((name : List ℕ) → list_of name lists' ≡ cond (bytes_eq (type_of d.id) name) (moved_local x z (list_of name lists)) (list_of name lists))
    → ((n f : List ℕ) (k : ℕ) → cell fields' n f k ≡ cond (k == z) (cell_of n f (Some d)) (cond (k == x) None (cell fields n f k)))
    → ((n f : List ℕ) → kind_at fields' n f ≡ kind_at fields n f)
    → IsIndexed types (with_at z (Some d) (with_at x None g)) lists' fields'
moved types g lists lists' fields fields' d x z is own free other a b c = record {
  rise = λ name. subst IsRising (sym (a name)) (rises_moved (bytes_eq (type_of d.id) name) x z (list_of name lists) (is.rise name));
  tell = λ name. subst (Tells (is_of_type name) (with_at z (Some d) (with_at x None g))) (sym (a name)) (tells_moved (is_of_type name) g d (list_of name lists) x z (is.rise name) (is.tell name) own free other);
  cells = λ n f k. b n f k ∙ ap (cond (k == z) (cell_of n f (Some d))) (ap (cond (k == x) None) (is.cells n f k) ∙ cell_set n f x None g k) ∙ cell_set n f z (Some d) (with_at x None g) k;
  kinds = λ n f. subst (λ o. IfSome o (λ k. kind_in (fin.get types n) f ≡ Some k)) (sym (c n f)) (is.kinds n f);
}

-- the same at each place
pub same_board : (types : Types) (g h : Board) (lists : Index) (fields : Fields) → ((k : ℕ) → h k ≡ g k) → IsIndexed types g lists fields → IsIndexed types h lists fields
same_board types g h lists fields e is = record {
  rise = is.rise;
  tell = λ name k. (λ i. ap (passes (is_of_type name)) (e k) ∙ (is.tell name k).0 i, λ i. (is.tell name k).1 (sym (ap (passes (is_of_type name)) (e k)) ∙ i));
  cells = λ n f k. is.cells n f k ∙ ap (cell_of n f) (sym (e k));
  kinds = is.kinds;
}

-- ---- what a place has

-- a free place is in no list
pub unlisted : (types : Types) (g : Board) (lists : Index) (fields : Fields) (l : ℕ) → IsIndexed types g lists fields → g l ≡ None → (name : List ℕ) → Contains (list_of name lists) l → ⊥
unlisted types g lists fields l is free name h = clash ((is.tell name l).0 h) (ap (passes (is_of_type name)) free)

pub no_cell : (types : Types) (g : Board) (lists : Index) (fields : Fields) (l : ℕ) → IsIndexed types g lists fields → g l ≡ None → (n f : List ℕ) → cell fields n f l ≡ None
no_cell types g lists fields l is free n f = is.cells n f l ∙ ap (cell_of n f) free
