-- Rows keep their ids, keys and indexes through a change of one place.
use Rattle.std.proofs.Common.{◌≡◌, ◌<◌, ◌≤◌, ◌⊎◌, inl, inr, ◌↔◌, ℕ, zero, suc, ◌==◌, Bool, true, false, cond, List, [], ◌∷◌, length, refl, sym, ap, subst, ◌∙◌, arith, Option, Some, None, option_map, option_and_then, bytes_eq}
use Rattle.std.specs.Option.{IfSome}
use Rattle.std.specs.List.{Contains}
use Rattle.std.specs.Ordering.{nat_cmp}
use Rattle.std.specs.FinMap as fin
use Rattle.std.specs.FinMap.{get-empty}
use Rattle.proof_basics.proofs.Options.{none_some, some_same}
use Rattle.proof_basics.proofs.Tests.{clash}
use Rattle.doc_types.specs.SchemaCodes.{Types}
use Rattle.documents.specs.Fields.{Contents}
use Rattle.global_ids.specs.Keys.{key_of}
use Rattle.local_ids.proofs.KeyLaws.{get_with, get_without}
use Rattle.local_ids.specs.Rising.{IsRising}
use Rattle.word_index.specs.Index.{Index, list_of}
use Rattle.meta_store.specs.Store.{Store, Has, IsNew}
use Rattle.field_indexes.specs.Fields.{Fields}
use Rattle.document_rows.specs.Rows.{Rows, is_of, has_row, kind_in, AreDistinct}
use Rattle.document_rows.specs.Reading.{row_at}
use Rattle.document_rows.proofs.RowLaws.{same_id, own_id, distinct-replaced, distinct-without}
use Rattle.node_rows.specs.Kept.{Board, with_at, named_of, IsProper, IsIndexed, IsKept, set_at}
use Rattle.node_rows.proofs.PlaceLaws.{at_set, long_set, without_is, replaced_is, lacks, lacked, past, within, none_has}
use Rattle.node_rows.proofs.ListLaws.{distinct_set, distinct_more, same_number}
use Rattle.node_rows.proofs.IndexedLaws.{same_board}

-- ---- where the document of an id is

pub of_id : (id : List ℕ) (r : Option Contents) → is_of id r ≡ true → option_map (λ d. d.id) r ≡ Some id
of_id id None h = clash h refl
of_id id (Some d) h = ap Some (same_id d.id id h)

pub id_of : (id : List ℕ) (r : Option Contents) → option_map (λ d. d.id) r ≡ Some id → is_of id r ≡ true
id_of id None h = absurd (none_some id h)
id_of id (Some d) h = ap (λ x. bytes_eq d.id x) (sym (some_same d.id id h)) ∙ own_id d.id

named_id : (r : Option Contents) → option_map (λ d. d.id) (option_map named_of r) ≡ option_map (λ d. d.id) r
named_id None = refl
named_id (Some d) = refl

-- what a store tells of an id, the rows tell
pub same_has : (types : Types) (store : Store) (rows : Rows) (lists : Index) (fields : Fields) → IsKept types store rows lists fields → (n : ℕ) → option_map (λ d. d.id) (fin.get store n) ≡ option_map (λ d. d.id) (row_at rows n)
same_has types store rows lists fields is n = ap (option_map (λ d. d.id)) (is.named n) ∙ named_id (row_at rows n)

pub told_local : (types : Types) (store : Store) (rows : Rows) (lists : Index) (fields : Fields) → IsKept types store rows lists fields → (id : List ℕ) (o : Option ℕ) → ((n : ℕ) → (o ≡ Some n) ↔ Has store n id)
    → (n : ℕ) → (o ≡ Some n) ↔ (option_map (λ d. d.id) (row_at rows n) ≡ Some id)
told_local types store rows lists fields is id o f n = (λ h. sym (same_has types store rows lists fields is n) ∙ (f n).0 h, λ h. (f n).1 (same_has types store rows lists fields is n ∙ h))

pub told_missing : (id : List ℕ) (rows : Rows) (o : Option ℕ) → o ≡ None → ((n : ℕ) → (o ≡ Some n) ↔ (option_map (λ d. d.id) (row_at rows n) ≡ Some id)) → has_row id rows ≡ false
told_missing id rows o e f = lacks id rows (λ n h. none_some n (sym e ∙ (f n).1 (of_id id (row_at rows n) h)))

pub is_new : (types : Types) (store : Store) (rows : Rows) (lists : Index) (fields : Fields) → IsKept types store rows lists fields → (id : List ℕ) → has_row id rows ≡ false → IsNew store id
is_new types store rows lists fields is id h n has = lacked id rows h n (id_of id (row_at rows n) (sym (same_has types store rows lists fields is n) ∙ has))

-- ---- a row at a place

map_at : {A B : Type 0} (f : A → B) (t : Bool) (x y : Option A) → cond t (option_map f x) (option_map f y) ≡ option_map f (cond t x y)
map_at f true x y = refl
map_at f false x y = refl

some_at : (P : Contents → Type 0) (t : Bool) (x y : Option Contents) → IfSome x P → IfSome y P → IfSome (cond t x y) P
some_at P true x y h k = h
some_at P false x y h k = k

long_at : (n : ℕ) (r : Option Contents) (rows : Rows) → (length (set_at n r rows) ≡ length rows) ⊎ ((length (set_at n r rows) ≡ suc (length rows)) × (length rows ≤ n))
long_at n r [] = inr (refl, omega arith)
long_at zero r (x ∷ rows) = inl refl
long_at (suc n) r (x ∷ rows) = elim (long_at n r rows) [ inl e ↦ inl (ap suc e) | inr e ↦ (let l = e.1 in inr (ap suc e.0, omega (arith, l))) ]

few_at : (n : ℕ) (r : Option Contents) (rows : Rows) → length rows < 4294967296 → n < 4294967295 → length (set_at n r rows) < 4294967296
few_at n r rows l m = elim (long_at n r rows) [ inl e ↦ omega (arith, e, l) | inr e ↦ (let f = e.0 in let g = e.1 in omega (arith, f, g, m)) ]

proper_at : (types : Types) (n : ℕ) (r : Option Contents) (rows : Rows) → n ≤ length rows → IfSome r (IsProper types) → ((k : ℕ) → IfSome (row_at rows k) (IsProper types)) → (k : ℕ) → IfSome (row_at (set_at n r rows) k) (IsProper types)
proper_at types n r rows l h all k = subst (λ o. IfSome o (IsProper types)) (sym (at_set n r rows k l)) (some_at (IsProper types) (k == n) r (row_at rows k) h (all k))

board_at : (types : Types) (n : ℕ) (r : Option Contents) (rows : Rows) (lists : Index) (fields : Fields) → n ≤ length rows → IsIndexed types (with_at n r (row_at rows)) lists fields → IsIndexed types (row_at (set_at n r rows)) lists fields
board_at types n r rows lists fields l is = same_board types (with_at n r (row_at rows)) (row_at (set_at n r rows)) lists fields (λ k. at_set n r rows k l) is

-- a new document at a free place
pub kept_new : (types : Types) (store store' : Store) (rows : Rows) (lists lists' : Index) (fields fields' : Fields) (d : Contents) (n : ℕ) → IsKept types store rows lists fields → IsProper types d
    → has_row d.id rows ≡ false → row_at rows n ≡ None → n ≤ length rows → n < 4294967295 → store' ≡ fin.insert store n (named_of d) → IsIndexed types (with_at n (Some d) (row_at rows)) lists' fields'
    → IsKept types store' (set_at n (Some d) rows) lists' fields'
kept_new types store store' rows lists lists' fields fields' d n is own new free l few e indexed = record {
  named = λ k. ap (λ (s : Store). fin.get s k) e ∙ get_with store n (named_of d) k ∙ ap (cond (k == n) (Some (named_of d))) (is.named k) ∙ map_at named_of (k == n) (Some d) (row_at rows k) ∙ sym (ap (option_map named_of) (at_set n (Some d) rows k l));
  indexed = board_at types n (Some d) rows lists' fields' l indexed;
  distinct = distinct_set d n rows new free is.distinct;
  few = few_at n (Some d) rows is.few few;
  proper = proper_at types n (Some d) rows l own is.proper;
}

-- a place that becomes free
pub kept_cleared : (types : Types) (store store' : Store) (rows : Rows) (lists lists' : Index) (fields fields' : Fields) (d : Contents) (n : ℕ) → IsKept types store rows lists fields
    → row_at rows n ≡ Some d → store' ≡ fin.remove store n → IsIndexed types (with_at n None (row_at rows)) lists' fields' → IsKept types store' (set_at n None rows) lists' fields'
kept_cleared types store store' rows lists lists' fields fields' d n is own e indexed = record {
  named = λ k. ap (λ (s : Store). fin.get s k) e ∙ get_without store n k ∙ ap (cond (k == n) None) (is.named k) ∙ map_at named_of (k == n) None (row_at rows k) ∙ sym (ap (option_map named_of) (at_set n None rows k l));
  indexed = board_at types n None rows lists' fields' l indexed;
  distinct = subst AreDistinct (without_is d.id rows n is.distinct there) (distinct-without d.id rows is.distinct);
  few = (let s = long_set n None rows less in let f = is.few in omega (arith, s, f));
  proper = proper_at types n None rows l tt is.proper;
}
  where
    less : n < length rows
    less = within rows n d own

    l : n ≤ length rows
    l = omega (arith, less)

    there : is_of d.id (row_at rows n) ≡ true
    there = ap (is_of d.id) own ∙ own_id d.id

-- another document of the same id
pub kept_replaced : (types : Types) (store : Store) (rows : Rows) (lists lists' : Index) (fields fields' : Fields) (c d : Contents) (n : ℕ) → IsKept types store rows lists fields → IsProper types d
    → row_at rows n ≡ Some c → c.id ≡ d.id → IsIndexed types (with_at n (Some d) (row_at rows)) lists' fields' → IsKept types store (set_at n (Some d) rows) lists' fields'
kept_replaced types store rows lists lists' fields fields' c d n is proper own same indexed = record {
  named = λ k. is.named k ∙ same_named k (k == n) refl ∙ map_at named_of (k == n) (Some d) (row_at rows k) ∙ sym (ap (option_map named_of) (at_set n (Some d) rows k l));
  indexed = board_at types n (Some d) rows lists' fields' l indexed;
  distinct = subst AreDistinct (replaced_is d rows n is.distinct there) (distinct-replaced d rows is.distinct);
  few = (let s = long_set n (Some d) rows less in let f = is.few in omega (arith, s, f));
  proper = proper_at types n (Some d) rows l proper is.proper;
}
  where
    less : n < length rows
    less = within rows n c own

    l : n ≤ length rows
    l = omega (arith, less)

    there : is_of d.id (row_at rows n) ≡ true
    there = ap (is_of d.id) own ∙ ap (λ x. bytes_eq x d.id) same ∙ own_id d.id

    same_named : (k : ℕ) (t : Bool) → (k == n) ≡ t → option_map named_of (row_at rows k) ≡ cond t (Some (named_of d)) (option_map named_of (row_at rows k))
    same_named k true e = ap (λ j. option_map named_of (row_at rows j)) (same_number k n e) ∙ ap (option_map named_of) own ∙ ap (λ x. Some (record { id = x; key = key_of x })) same
    same_named k false e = refl

-- the same rows, where an entering failed
pub kept_failed : (types : Types) (store store' : Store) (rows : Rows) (lists lists' : Index) (fields fields' : Fields) → IsKept types store rows lists fields → store' ≡ store → IsIndexed types (row_at rows) lists' fields' → IsKept types store' rows lists' fields'
kept_failed types store store' rows lists lists' fields fields' is e indexed = record {
  named = λ k. ap (λ (s : Store). fin.get s k) e ∙ is.named k;
  indexed = indexed;
  distinct = is.distinct;
  few = is.few;
  proper = is.proper;
}

-- one more place, which is free
pub kept_more : (types : Types) (store : Store) (rows : Rows) (lists : Index) (fields : Fields) (n : ℕ) → IsKept types store rows lists fields → n ≡ length rows → n < 4294967295 → IsKept types store (set_at n None rows) lists fields
kept_more types store rows lists fields n is e few = record {
  named = λ k. is.named k ∙ ap (option_map named_of) (same_place k);
  indexed = same_board types (row_at rows) (row_at (set_at n None rows)) lists fields (λ k. sym (same_place k)) is.indexed;
  distinct = distinct_more n rows is.distinct (omega (arith, e));
  few = few_at n None rows is.few few;
  proper = proper_at types n None rows (omega (arith, e)) tt is.proper;
}
  where
    same_place : (k : ℕ) → row_at rows k ≡ row_at (set_at n None rows) k
    same_place k = by_test (k == n) refl ∙ sym (at_set n None rows k (omega (arith, e)))
      where
        by_test : (t : Bool) → (k == n) ≡ t → row_at rows k ≡ cond t None (row_at rows k)
        by_test true s = past rows k (let f = same_number k n s in omega (arith, e, f))
        by_test false s = refl

-- ---- the board of a replacement

pub board_replaced : (types : Types) (g : Board) (lists : Index) (fields : Fields) (d : Contents) (n last : ℕ) → g last ≡ None
    → IsIndexed types (with_at n (Some d) (with_at last None (with_at n None (with_at last (Some d) g)))) lists fields → IsIndexed types (with_at n (Some d) g) lists fields
board_replaced types g lists fields d n last free is = same_board types (with_at n (Some d) (with_at last None (with_at n None (with_at last (Some d) g)))) (with_at n (Some d) g) lists fields (λ k. by_tests k (k == n) (k == last) refl refl) is
  where
    by_tests : (k : ℕ) (t u : Bool) → (k == n) ≡ t → (k == last) ≡ u → cond t (Some d) (g k) ≡ cond t (Some d) (cond u None (cond t None (cond u (Some d) (g k))))
    by_tests k true u e f = refl
    by_tests k false true e f = ap g (same_number k last f) ∙ free
    by_tests k false false e f = refl

-- ---- no documents

pub kept_empty : (types : Types) (store : Store) (lists : Index) (fields : Fields) → store ≡ fin.empty → ((name : List ℕ) → list_of name lists ≡ []) → ((n f : List ℕ) → fields n f ≡ None) → IsKept types store [] lists fields
kept_empty types store lists fields e a b = record {
  named = λ n. ap (λ (s : Store). fin.get s n) e ∙ get-empty nat_cmp n;
  indexed = record {
    rise = λ name. subst IsRising (sym (a name)) tt;
    tell = λ name k. (λ h. absurd (none_has k (subst (λ xs. Contains xs k) (a name) h)), λ h. clash h refl);
    cells = λ n f k. ap (λ o. option_and_then (λ h. fin.get h.values k) o) (b n f);
    kinds = λ n f. subst (λ o. IfSome (option_map (λ h. h.kind) o) (λ k. kind_in (fin.get types n) f ≡ Some k)) (sym (b n f)) tt;
  };
  distinct = tt;
  few = omega arith;
  proper = λ n. tt;
}
