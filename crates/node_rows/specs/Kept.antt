-- What the code keeps beside the rows of a node.
use Rattle.std.specs.Prelude.{◌≡◌, ◌<◌, ◌==◌, ◌&&◌, ◌↔◌, not, ℕ, zero, suc, ℤ, Bool, true, false, nat_lt, List, [], ◌∷◌, length, map, Option, None, Some, option_map, if◌then◌else◌}
use Rattle.std.specs.List.{Contains, list_any}
use Rattle.std.specs.Option.{IfSome, option_map_or}
use Rattle.std.specs.FinMap as fin
use Rattle.std.specs.Str.{bytes_eq}
use Rattle.global_ids.specs.Keys.{key_of}
use Rattle.bucket_ids.specs.Buckets.{Low}
use Rattle.doc_types.specs.SchemaCodes.{Types}
use Rattle.doc_types.specs.SchemaCodes as schema
use Rattle.doc_types.specs.declared.values.FieldValue.{FieldValue}
use Rattle.documents.specs.Fields.{Contents}
use Rattle.documents.specs.declared.entry.Entry.{Entry}
use Rattle.local_ids.specs.Rising.{IsRising}
use Rattle.word_index.specs.Index.{Index, list_of}
use Rattle.meta_store.specs.Store.{Store}
use Rattle.meta_store.specs.declared.store.Named.{Named}
use Rattle.field_indexes.specs.Fields.{Fields, cell}
use Rattle.document_indexes.specs.Entering.{cell_of, kind_at}
use Rattle.document_rows.specs.Rows.{Rows, fits, fitted, kind_in, free_place, put_free, AreDistinct}
use Rattle.node_rows.specs.TypedRows.{lies_in}
use Rattle.document_rows.specs.Reading.{row_at, is_of_type, value_has_number, IsWide}

-- the document of an entry that is kept at a place; an entry without one leaves it free
abbrev pub document_in : Option Entry → Option Contents
document_in None = None
document_in (Some e) = e.body

abbrev pub documents_in : List (Option Entry) → Rows
documents_in rows = map document_in rows

-- a document's id and key
abbrev pub named_of : Contents → Named
named_of d = record { id = d.id; key = key_of d.id }

-- ---- documents that rows may have

-- numbers of 64 bits
abbrev pub AreWide : Contents → Type 0
AreWide d = (f : List ℕ) (q : ℤ) → value_has_number q (fin.get d.fields f) ≡ true → IsWide q

-- each value is of its kind
pub record IsProper (types : Types) (d : Contents) : Type 0 where
  pub whole : fitted types d ≡ d
  pub wide : AreWide d

-- ---- what stands at each place

abbrev pub Board : Type 0
Board = ℕ → Option Contents

abbrev pub with_at : ℕ → Option Contents → Board → Board
with_at n r g k = if k == n then r else g k

-- the document of a place passes a test
abbrev pub passes : (Contents → Bool) → Option Contents → Bool
passes p r = option_map_or p r false

-- the list has just the places whose documents pass the test
abbrev pub Tells : (Contents → Bool) → Board → List ℕ → Type 0
Tells p g xs = (k : ℕ) → Contains xs k ↔ (passes p (g k) ≡ true)

-- the indexes are those of the documents, and the kind of each field is that of the schema
pub record IsIndexed (types : Types) (g : Board) (lists : Index) (fields : Fields) : Type 0 where
  pub rise : (name : List ℕ) → IsRising (list_of name lists)
  pub tell : (name : List ℕ) → Tells (is_of_type name) g (list_of name lists)
  pub cells : (n f : List ℕ) (k : ℕ) → cell fields n f k ≡ cell_of n f (g k)
  pub kinds : (n f : List ℕ) → IfSome (kind_at fields n f) (λ k. kind_in (fin.get types n) f ≡ Some k)

-- ids, keys and indexes are those of the rows
pub record IsKept (types : Types) (store : Store) (rows : Rows) (lists : Index) (fields : Fields) : Type 0 where
  pub named : (n : ℕ) → fin.get store n ≡ option_map named_of (row_at rows n)
  pub indexed : IsIndexed types (row_at rows) lists fields
  pub distinct : AreDistinct rows
  pub few : length rows < 4294967296
  pub proper : (n : ℕ) → IfSome (row_at rows n) (IsProper types)

-- ---- what changes of one place leave

-- another row at a place, or one more behind the last
abbrev pub set_at : ℕ → Option Contents → Rows → Rows
set_at n r [] = r ∷ []
set_at zero r (x ∷ rows) = r ∷ rows
set_at (suc n) r (x ∷ rows) = x ∷ set_at n r rows

-- a new document comes to the least free place, if that is below 2^32 - 1
abbrev pub put_new : Contents → Rows → Rows
put_new d rows = if nat_lt (free_place rows) 4294967295 then put_free d rows else rows

-- what a body leaves, where there is one
abbrev pub by_body : (Contents → Rows → Rows) → Option Contents → Rows → Rows
by_body change None rows = rows
by_body change (Some d) rows = change d rows

-- the document of an entry, if it is of the entry's id
abbrev pub own_body : List ℕ → Option Contents → Option Contents
own_body id None = None
own_body id (Some d) = if bytes_eq d.id id then Some d else None

-- the document that a row shows of an entry
abbrev pub shown : Types → Entry → Option Contents
shown types e = option_map (fitted types) (own_body e.id e.body)

-- a field's value is of its kind
abbrev pub pair_fits : Option schema.Fields → List ℕ × FieldValue → Bool
pair_fits kinds e = fits (kind_in kinds e.0) (Some e.1)

-- some field of the name has a value that isn't of its kind
abbrev pub is_unfit : Option schema.Fields → List ℕ → List (List ℕ × FieldValue) → Bool
is_unfit kinds f es = list_any (λ e. bytes_eq f e.0 && not (pair_fits kinds e)) es

-- the place stays as it is, or becomes free where its document's key lies in the bucket
abbrev pub kept_in : Low → Option Contents → Option Contents
kept_in b r = if lies_in b r then None else r

-- the places below one changed, the others as they are
abbrev pub changed_below : (Option Contents → Option Contents) → ℕ → Rows → Rows
changed_below f zero rows = rows
changed_below f (suc n) [] = []
changed_below f (suc n) (r ∷ rows) = f r ∷ changed_below f n rows
