-- Rows changed or copied place by place.
use Rattle.std.proofs.Common.{◌≡◌, ℕ, zero, suc, ◌+◌, ◌<◌, ◌≤◌, ◌||◌, Bool, true, false, List, [], ◌∷◌, map, length, take, refl, sym, ap, subst, ◌∙◌, arith, Option, Some, None, option_map, bytes_eq}
use Rattle.proof_basics.proofs.Tests.{clash}
use Rattle.proof_basics.proofs.Options.{none_some, some_same}
use Rattle.global_ids.specs.Keys.{key_of}
use Rattle.documents.specs.Fields.{Contents}
use Rattle.document_rows.specs.Rows.{Rows, is_of, has_row, AreDistinct}
use Rattle.document_rows.specs.Reading.{row_at}
use Rattle.document_rows.proofs.RowLaws.{same_id, own_id}
use Rattle.doc_types.specs.SchemaCodes.{Types}
use Rattle.std.specs.Option.{IfSome}
use Rattle.word_index.specs.Index.{Index}
use Rattle.field_indexes.specs.Fields.{Fields}
use Rattle.meta_store.specs.Store.{Store}
use Rattle.node_rows.proofs.IndexedLaws.{same_board}
use Rattle.node_rows.proofs.UndoLaws.{cut_same, cut_few}
use Rattle.node_rows.specs.TypedRows.{TypedRows, with_rows}
use Rattle.node_rows.specs.Kept.{set_at, changed_below, named_of, IsProper, IsKept}
use Rattle.node_rows.proofs.PlaceLaws.{lacked}

pub set_own : (n : ℕ) (rows : Rows) → n < length rows → set_at n (row_at rows n) rows ≡ rows
set_own n [] l = absurd (omega (arith, l))
set_own zero (r ∷ rows) l = refl
set_own (suc n) (r ∷ rows) l = ap (λ ys. r ∷ ys) (set_own n rows (omega (arith, l)))

pub changed_more : (f : Option Contents → Option Contents) (n : ℕ) (rows : Rows) → n < length rows → set_at n (f (row_at (changed_below f n rows) n)) (changed_below f n rows) ≡ changed_below f (suc n) rows
changed_more f n [] l = absurd (omega (arith, l))
changed_more f zero (r ∷ rows) l = refl
changed_more f (suc n) (r ∷ rows) l = ap (λ ys. f r ∷ ys) (changed_more f n rows (omega (arith, l)))

pub changed_long : (f : Option Contents → Option Contents) (n : ℕ) (rows : Rows) → length (changed_below f n rows) ≡ length rows
changed_long f zero rows = refl
changed_long f (suc n) [] = refl
changed_long f (suc n) (r ∷ rows) = ap suc (changed_long f n rows)

pub changed_all : (f : Option Contents → Option Contents) (n : ℕ) (rows : Rows) → length rows ≤ n → changed_below f n rows ≡ map f rows
changed_all f zero [] l = refl
changed_all f zero (r ∷ rows) l = absurd (omega (arith, l))
changed_all f (suc n) [] l = refl
changed_all f (suc n) (r ∷ rows) l = ap (λ ys. f r ∷ ys) (changed_all f n rows (omega (arith, l)))

-- ---- copies

pub take_more : (n : ℕ) (rows : Rows) → n < length rows → set_at (length (take n rows)) (row_at rows n) (take n rows) ≡ take (suc n) rows
take_more n [] l = absurd (omega (arith, l))
take_more zero (r ∷ rows) l = refl
take_more (suc n) (r ∷ rows) l = ap (λ ys. r ∷ ys) (take_more n rows (omega (arith, l)))

pub take_long : (n : ℕ) (rows : Rows) → n ≤ length rows → length (take n rows) ≡ n
take_long zero rows l = refl
take_long (suc n) [] l = absurd (omega (arith, l))
take_long (suc n) (r ∷ rows) l = ap suc (take_long n rows (omega (arith, l)))

-- a document isn't among those before it
pub take_lacks : (d : Contents) (n : ℕ) (rows : Rows) → AreDistinct rows → row_at rows n ≡ Some d → has_row d.id (take n rows) ≡ false
take_lacks d zero rows h e = refl
take_lacks d (suc n) [] h e = refl
take_lacks d (suc n) (None ∷ rows) h e = take_lacks d n rows h e
take_lacks d (suc n) (Some c ∷ rows) h e = by_test (bytes_eq c.id d.id) refl (take_lacks d n rows h.1 e)
  where
    by_test : (t : Bool) → bytes_eq c.id d.id ≡ t → has_row d.id (take n rows) ≡ false → (t || has_row d.id (take n rows)) ≡ false
    by_test true s i = absurd (lacked c.id rows h.0 n (ap (is_of c.id) e ∙ ap (λ x. bytes_eq d.id x) (same_id c.id d.id s) ∙ own_id d.id))
    by_test false s i = i

pub copied : (self other : TypedRows) (n : ℕ) (o : Option Contents) → self ≡ with_rows (take n other.rows) other → n < length other.rows → row_at other.rows n ≡ o
    → with_rows (set_at (length self.rows) o self.rows) self ≡ with_rows (take (n + 1) other.rows) other
copied self other n o e l row =
    ap (λ (t : TypedRows). with_rows (set_at (length t.rows) o t.rows) t) e
    ∙ ap (λ rs. with_rows rs other) (ap (λ r. set_at (length (take n other.rows)) r (take n other.rows)) (sym row) ∙ take_more n other.rows l ∙ (let one : suc n ≡ n + 1 = omega arith in ap (λ k. take k other.rows) one))

pub no_key : (r : Option Contents) → None ≡ option_map (λ d. key_of d.id) r → r ≡ None
no_key None e = refl
no_key (Some d) e = absurd (none_some (key_of d.id) e)

pub copied_own : (types : Types) (rows : Rows) (n key : ℕ) (o : Option Contents) → row_at rows n ≡ o → AreDistinct rows → IfSome o (IsProper types) → Some key ≡ option_map (λ d. key_of d.id) o
    → IfSome o (λ d. IsProper types d × (key ≡ key_of d.id) × (has_row d.id (take n rows) ≡ false))
copied_own types rows n key None row h p k = tt
copied_own types rows n key (Some d) row h p k = (p, some_same key (key_of d.id) k, take_lacks d n rows h row)

-- ---- places cut off

take_has : (q : List ℕ) (n : ℕ) (rows : Rows) → has_row q rows ≡ false → has_row q (take n rows) ≡ false
take_has q zero rows h = refl
take_has q (suc n) [] h = refl
take_has q (suc n) (r ∷ rows) h = by_test (is_of q r) h (take_has q n rows)
  where
    by_test : (t : Bool) → (t || has_row q rows) ≡ false → (has_row q rows ≡ false → has_row q (take n rows) ≡ false) → (t || has_row q (take n rows)) ≡ false
    by_test true k ih = clash refl k
    by_test false k ih = ih k

distinct_take : (n : ℕ) (rows : Rows) → AreDistinct rows → AreDistinct (take n rows)
distinct_take zero rows h = tt
distinct_take (suc n) [] h = tt
distinct_take (suc n) (None ∷ rows) h = distinct_take n rows h
distinct_take (suc n) (Some d ∷ rows) h = (take_has d.id n rows h.0, distinct_take n rows h.1)

pub kept_cut : (types : Types) (store : Store) (rows : Rows) (lists : Index) (fields : Fields) (n : ℕ) → IsKept types store rows lists fields → ((k : ℕ) → n ≤ k → row_at rows k ≡ None) → IsKept types store (take n rows) lists fields
kept_cut types store rows lists fields n is h = record {
  named = λ k. is.named k ∙ ap (option_map named_of) (sym (cut_same n rows h k));
  indexed = same_board types (row_at rows) (row_at (take n rows)) lists fields (cut_same n rows h) is.indexed;
  distinct = distinct_take n rows is.distinct;
  few = (let f = is.few in let l = cut_few n rows in omega (arith, f, l));
  proper = λ k. subst (λ o. IfSome o (IsProper types)) (sym (cut_same n rows h k)) (is.proper k);
}
