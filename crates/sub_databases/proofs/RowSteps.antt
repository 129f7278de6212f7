-- What changes of the ready part leave of each document.
use Rattle.std.proofs.Common.{◌≡◌, ◌↔◌, ℕ, zero, suc, Bool, true, false, cond, ◌||◌, List, [], ◌∷◌, Option, None, Some, is_some, option_map, not, refl, sym, ap, ◌∙◌}
use mathlib.Core.Bool.{true≢false}
use Rattle.std.specs.Str.{bytes_eq}
use Rattle.bucket_ids.specs.Buckets.{Low}
use Rattle.doc_types.specs.SchemaCodes.{Types}
use Rattle.documents.specs.Fields.{Contents}
use Rattle.documents.specs.declared.entry.Entry.{Entry}
use Rattle.entry_maps.specs.Entries.{in_bucket}
use Rattle.document_rows.specs.Rows.{Rows, is_of, has_row, document_of, without, fitted}
use Rattle.document_rows.specs.Reading.{row_at}
use Rattle.document_rows.proofs.RowLaws.{same_id, own_id, without-is}
use Rattle.node_rows.specs.TypedRows.{without_in}
use Rattle.view_changes.specs.Shown.{body_shown, HasRoom}
use Rattle.view_changes.proofs.ShownLaws.{body-is}
use Rattle.sub_databases.specs.Changes.{rows_after}

pub not_one : {A : Type 0} (a : A) → None ≡ Some a → ⊥
not_one a e = cc

pub is_one : {A : Type 0} (a b : A) → Some a ≡ Some b → a ≡ b
is_one a b e = cc

-- some place has a document exactly where there is one
pub has_some : (id : List ℕ) (rows : Rows) → has_row id rows ≡ is_some (document_of id rows)
has_some id [] = refl
has_some id (None ∷ rows) = has_some id rows
has_some id (Some d ∷ rows) = by_test (bytes_eq d.id id) (has_some id rows)
  where
    by_test : (t : Bool) → has_row id rows ≡ is_some (document_of id rows) → (t || has_row id rows) ≡ is_some (cond t (Some d) (document_of id rows))
    by_test true ih = refl
    by_test false ih = ih

-- an entry shows a document exactly where it has that of the id
pub shown_is : (types : Types) (id : List ℕ) (o : Option Contents) → is_some (body_shown types id o) ≡ is_of id o
shown_is types id None = refl
shown_is types id (Some d) = by_test (bytes_eq d.id id)
  where
    by_test : (t : Bool) → is_some (cond t (Some (fitted types d)) None) ≡ t
    by_test true = refl
    by_test false = refl

-- of a newer entry
pub rows_after-is : (types : Types) (ready : Bool) (e : Entry) (q : List ℕ) (rows : Rows) → (ready ≡ true → HasRoom rows)
    → document_of q (rows_after types ready rows e) ≡ cond (bytes_eq e.id q) (cond ready (body_shown types e.id e.body) None) (document_of q rows)
rows_after-is types true e q rows room = body-is types e.id e.body q rows (room refl)
rows_after-is types false e q rows room = without-is e.id q rows

-- of a bucket that is dropped
pub without_in-is : (b : Low) (q : List ℕ) (rows : Rows) → document_of q (without_in b rows) ≡ cond (in_bucket b q) None (document_of q rows)
without_in-is b q [] = by_test (in_bucket b q)
  where
    by_test : (t : Bool) → ◌≡◌ {A = Option Contents} None (cond t None None)
    by_test true = refl
    by_test false = refl
without_in-is b q (None ∷ rows) = without_in-is b q rows
without_in-is b q (Some d ∷ rows) = step (in_bucket b d.id) (in_bucket b q) (bytes_eq d.id q) refl refl refl (without_in-is b q rows)
  where
    one : bytes_eq d.id q ≡ true → in_bucket b d.id ≡ in_bucket b q
    one same = ap (in_bucket b) (same_id d.id q same)

    step : (t w u : Bool) → in_bucket b d.id ≡ t → in_bucket b q ≡ w → bytes_eq d.id q ≡ u → document_of q (without_in b rows) ≡ cond (in_bucket b q) None (document_of q rows)
        → document_of q (cond t None (Some d) ∷ without_in b rows) ≡ cond w None (cond u (Some d) (document_of q rows))
    step true true u a k c ih = ih ∙ rw k refl
    step true false true a k c ih = absurd (true≢false (sym a ∙ (one c ∙ k)))
    step true false false a k c ih = ih ∙ rw k refl
    step false true true a k c ih = absurd (true≢false (sym k ∙ (sym (one c) ∙ a)))
    step false true false a k c ih = rw c (ih ∙ rw k refl)
    step false false true a k c ih = rw c refl
    step false false false a k c ih = rw c (ih ∙ rw k refl)

-- ---- a document's local id

-- the place has the document of this id
abbrev pub stands_at : Rows → ℕ → List ℕ → Type 0
stands_at rows n id = option_map (λ d. d.id) (row_at rows n) ≡ Some id

row_has : (id : List ℕ) (rows : Rows) (n : ℕ) → stands_at rows n id → has_row id rows ≡ true
row_has id [] n is = absurd (not_one id is)
row_has id (None ∷ rows) zero is = absurd (not_one id is)
row_has id (None ∷ rows) (suc n) is = row_has id rows n is
row_has id (Some d ∷ rows) zero is = ap (λ t. t || has_row id rows) (ap (bytes_eq d.id) (sym (is_one d.id id is)) ∙ own_id d.id)
row_has id (Some d ∷ rows) (suc n) is = by_test (bytes_eq d.id id) (row_has id rows n is)
  where
    by_test : (t : Bool) → has_row id rows ≡ true → (t || has_row id rows) ≡ true
    by_test true ih = refl
    by_test false ih = ih

has_place : (id : List ℕ) (rows : Rows) → has_row id rows ≡ true → ((n : ℕ) → stands_at rows n id → ⊥) → ⊥
has_place id [] h k = true≢false (sym h)
has_place id (None ∷ rows) h k = has_place id rows h (λ n. k (suc n))
has_place id (Some d ∷ rows) h k = by_test (bytes_eq d.id id) refl h (λ has. has_place id rows has (λ n. k (suc n)))
  where
    by_test : (t : Bool) → bytes_eq d.id id ≡ t → (t || has_row id rows) ≡ true → (has_row id rows ≡ true → ⊥) → ⊥
    by_test true is has ih = k zero (ap Some (same_id d.id id is))
    by_test false is has ih = ih has

-- there is one exactly where some place has the document
pub local_some : (id : List ℕ) (rows : Rows) (o : Option ℕ) → ((n : ℕ) → (o ≡ Some n) ↔ stands_at rows n id) → is_some o ≡ has_row id rows
local_some id rows (Some n) h = sym (row_has id rows n ((h n).0 refl))
local_some id rows None h = by_test (has_row id rows) refl
  where
    by_test : (t : Bool) → has_row id rows ≡ t → false ≡ t
    by_test true has = absurd (has_place id rows has (λ n is. not_one n ((h n).1 is)))
    by_test false has = refl

pub turned : (a b : Bool) → a ≡ not b → b ≡ not a
turned true true e = absurd (true≢false e)
turned true false e = refl
turned false true e = refl
turned false false e = absurd (true≢false (sym e))

-- ---- a document that isn't there

pub without_none : (id : List ℕ) (rows : Rows) → has_row id rows ≡ false → without id rows ≡ rows
without_none id [] h = refl
without_none id (None ∷ rows) h = ap (λ l. None ∷ l) (without_none id rows h)
without_none id (Some d ∷ rows) h = by_test (bytes_eq d.id id) refl h (without_none id rows)
  where
    by_test : (t : Bool) → bytes_eq d.id id ≡ t → (t || has_row id rows) ≡ false → (has_row id rows ≡ false → without id rows ≡ rows) → (cond t None (Some d)) ∷ without id rows ≡ Some d ∷ rows
    by_test true is k ih = absurd (true≢false k)
    by_test false is k ih = ap (λ l. Some d ∷ l) (ih k)
