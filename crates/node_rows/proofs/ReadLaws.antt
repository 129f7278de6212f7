-- What readers of rows tell: lists of places, and the values of columns.
use Rattle.std.proofs.Common.{◌≡◌, ℕ, suc, ℤ, ◌<◌, ◌&&◌, ◌||◌, Bool, true, false, cond, List, [], ◌∷◌, map, length, refl, sym, ap, ◌∙◌, arith, Option, Some, None, option_map, option_and_then, is_some, bytes_eq}
use Rattle.std.specs.Option.{IfSome, option_map_or}
use Rattle.std.specs.List.{list_any, flat_map}
use Rattle.std.specs.FinMap as fin
use Rattle.std.proofs.lemmas.List.Folds.{list_any-append}
use Rattle.proof_basics.proofs.Tests.{clash}
use Rattle.doc_types.specs.SchemaCodes.{Types}
use Rattle.doc_types.specs.declared.values.FieldValue.{FieldValue}
use Rattle.doc_types.specs.declared.values.FieldValue.TheVariants.{Int, Text, Ints, Texts}
use Rattle.document_ids.specs.Parts.{type_of}
use Rattle.documents.specs.Fields.{Contents}
use Rattle.local_ids.specs.Rising.{IsRising}
use Rattle.local_ids.proofs.KeyLaws.{keys_rise, key_has, has_key, same_ids}
use Rattle.word_index.specs.Tokens.{tokens_of}
use Rattle.word_index.specs.Index.{Index}
use Rattle.meta_store.specs.Store.{Store}
use Rattle.std.specs.FinMap.{len-entries}
use Rattle.std.proofs.lemmas.List.{length-map}
use Rattle.attribute_columns.specs.Columns.{Held, has_number, numbers_of, numbers_at, locals_with}
use Rattle.attribute_columns.proofs.ColumnLaws as columns
use Rattle.field_indexes.specs.Fields.{Fields}
use Rattle.field_indexes.specs.Words.{value_has_word, locals_having}
use Rattle.field_indexes.proofs.TestLaws.{rising_by, told_by}
use Rattle.document_indexes.specs.Entering.{cell_of}
use Rattle.document_rows.specs.Rows.{Rows}
use Rattle.document_rows.specs.Reading.{row_at, places_from, places_where, is_any, is_of_type, value_has_token, value_has_number, has_token, has_number_in, IsWide}
use Rattle.node_rows.specs.TypedRows.{AreFitted}
use Rattle.node_rows.specs.Kept.{named_of, IsProper, Board, passes, Tells, IsIndexed, IsKept}
use Rattle.node_rows.proofs.PlaceLaws.{rise_from, told, none_has}

-- a rising list of the places that a test tells
pub same_places : (p : Contents → Bool) (rows : Rows) (xs : List ℕ) → IsRising xs → Tells p (row_at rows) xs → xs ≡ places_where p rows
same_places p rows xs r is = same_ids xs (places_where p rows) r (rise_from p 0 rows) (λ q h. (told p rows q).1 ((is q).0 h)) (λ q h. (is q).1 ((told p rows q).0 h))

-- and an empty one
pub no_places : (p : Contents → Bool) (rows : Rows) → ((k : ℕ) → passes p (row_at rows k) ≡ false) → [] ≡ places_where p rows
no_places p rows none = same_places p rows [] tt (λ k. (λ h. absurd (none_has k h), λ h. clash h (none k)))

-- ---- all places

any_named : (r : Option Contents) → is_some (option_map named_of r) ≡ passes is_any r
any_named None = refl
any_named (Some d) = refl

pub keys_are : (types : Types) (store : Store) (rows : Rows) (lists : Index) (fields : Fields) → IsKept types store rows lists fields → fin.keys store ≡ places_where is_any rows
keys_are types store rows lists fields is = same_places is_any rows (fin.keys store) (keys_rise store) (λ k. (
  λ h. sym (same k) ∙ key_has store k h,
  λ h. has_key store k (same k ∙ h),
))
  where
    same : (k : ℕ) → is_some (fin.get store k) ≡ passes is_any (row_at rows k)
    same k = ap is_some (is.named k) ∙ any_named (row_at rows k)

many : (s : Store) → length (fin.keys s) ≡ fin.len s
many s = length-map (fin.entries s) (λ e. e.0) ∙ sym (len-entries s)

pub how_many : (types : Types) (store : Store) (rows : Rows) (lists : Index) (fields : Fields) → IsKept types store rows lists fields → fin.len store ≡ length (places_where is_any rows)
how_many types store rows lists fields is = sym (many store) ∙ ap length (keys_are types store rows lists fields is)

-- ---- words

with_none : (b : Bool) → b ≡ (b || false)
with_none true = refl
with_none false = refl

words_flat : (w : List ℕ) (ts : List (List ℕ)) → list_any (bytes_eq w) (flat_map tokens_of ts) ≡ list_any (λ tokens. list_any (bytes_eq w) tokens) (map tokens_of ts)
words_flat w [] = refl
words_flat w (t ∷ ts) = list_any-append (bytes_eq w) (tokens_of t) (flat_map tokens_of ts) ∙ ap (λ b. list_any (bytes_eq w) (tokens_of t) || b) (words_flat w ts)

same_word : (w : List ℕ) (v : FieldValue) → value_has_word w v ≡ value_has_token w (Some v)
same_word w (Int z) = refl
same_word w (Text t) = with_none (list_any (bytes_eq w) (tokens_of t))
same_word w (Ints zs) = refl
same_word w (Texts ts) = words_flat w ts

word_cell : (name field w : List ℕ) (r : Option Contents) → option_map_or (value_has_word w) (cell_of name field r) false ≡ passes (has_token name field w) r
word_cell name field w None = refl
word_cell name field w (Some d) = by_test (bytes_eq (type_of d.id) name)
  where
    by_value : (o : Option FieldValue) → option_map_or (value_has_word w) o false ≡ value_has_token w o
    by_value None = refl
    by_value (Some v) = same_word w v

    by_test : (t : Bool) → option_map_or (value_has_word w) (cond t (fin.get d.fields field) None) false ≡ (t && value_has_token w (fin.get d.fields field))
    by_test true = by_value (fin.get d.fields field)
    by_test false = refl

-- what a field that is there has
pub cell_there : (types : Types) (g : Board) (lists : Index) (fields : Fields) (name field : List ℕ) (h : Held) → IsIndexed types g lists fields → Some h ≡ fields name field → (k : ℕ) → fin.get h.values k ≡ cell_of name field (g k)
cell_there types g lists fields name field h is e k = ap (λ o. option_and_then (λ h. fin.get h.values k) o) e ∙ is.cells name field k

-- and one that isn't
pub cell_missing : (types : Types) (g : Board) (lists : Index) (fields : Fields) (name field : List ℕ) → IsIndexed types g lists fields → fields name field ≡ None → (k : ℕ) → cell_of name field (g k) ≡ None
cell_missing types g lists fields name field is e k = sym (is.cells name field k) ∙ ap (λ o. option_and_then (λ h. fin.get h.values k) o) e

pub words_are : (types : Types) (rows : Rows) (lists : Index) (fields : Fields) (name field w : List ℕ) (h : Held) → IsIndexed types (row_at rows) lists fields → Some h ≡ fields name field
    → locals_having w h.values ≡ places_where (has_token name field w) rows
words_are types rows lists fields name field w h is e = same_places (has_token name field w) rows (locals_having w h.values) (rising_by (value_has_word w) h.values) (λ k. (
  λ i. sym (same k) ∙ (told_by (value_has_word w) h.values k).0 i,
  λ i. (told_by (value_has_word w) h.values k).1 (same k ∙ i),
))
  where
    same : (k : ℕ) → option_map_or (value_has_word w) (fin.get h.values k) false ≡ passes (has_token name field w) (row_at rows k)
    same k = ap (λ o. option_map_or (value_has_word w) o false) (cell_there types (row_at rows) lists fields name field h is e k) ∙ word_cell name field w (row_at rows k)

pub no_words : (types : Types) (rows : Rows) (lists : Index) (fields : Fields) (name field w : List ℕ) → IsIndexed types (row_at rows) lists fields → fields name field ≡ None → [] ≡ places_where (has_token name field w) rows
no_words types rows lists fields name field w is e = no_places (has_token name field w) rows (λ k. sym (word_cell name field w (row_at rows k)) ∙ ap (λ o. option_map_or (value_has_word w) o false) (cell_missing types (row_at rows) lists fields name field is e k))

-- ---- numbers

number_cell : (name field : List ℕ) (q : ℤ) (r : Option Contents) → has_number q (option_map_or numbers_of (cell_of name field r) []) ≡ passes (has_number_in name field q) r
number_cell name field q None = refl
number_cell name field q (Some d) = by_test (bytes_eq (type_of d.id) name)
  where
    by_value : (o : Option FieldValue) → has_number q (option_map_or numbers_of o []) ≡ value_has_number q o
    by_value None = refl
    by_value (Some v) = refl

    by_test : (t : Bool) → has_number q (option_map_or numbers_of (cond t (fin.get d.fields field) None) []) ≡ (t && value_has_number q (fin.get d.fields field))
    by_test true = by_value (fin.get d.fields field)
    by_test false = refl

pub numbers_are : (types : Types) (rows : Rows) (lists : Index) (fields : Fields) (name field : List ℕ) (q : ℤ) (h : Held) → IsIndexed types (row_at rows) lists fields → Some h ≡ fields name field
    → locals_with q h.values ≡ places_where (has_number_in name field q) rows
numbers_are types rows lists fields name field q h is e = same_places (has_number_in name field q) rows (locals_with q h.values) (columns.rising q h.values) (λ k. (
  λ i. sym (same k) ∙ (columns.told q h.values k).0 i,
  λ i. (columns.told q h.values k).1 (same k ∙ i),
))
  where
    same : (k : ℕ) → has_number q (numbers_at h.values k) ≡ passes (has_number_in name field q) (row_at rows k)
    same k = ap (λ o. has_number q (option_map_or numbers_of o [])) (cell_there types (row_at rows) lists fields name field h is e k) ∙ number_cell name field q (row_at rows k)

pub no_numbers : (types : Types) (rows : Rows) (lists : Index) (fields : Fields) (name field : List ℕ) (q : ℤ) → IsIndexed types (row_at rows) lists fields → fields name field ≡ None → places_where (has_number_in name field q) rows ≡ []
no_numbers types rows lists fields name field q is e =
    sym (no_places (has_number_in name field q) rows (λ k. sym (number_cell name field q (row_at rows k)) ∙ ap (λ o. has_number q (option_map_or numbers_of o [])) (cell_missing types (row_at rows) lists fields name field is e k)))

-- numbers of documents are of 64 bits
right_of : (a b : Bool) → (a && b) ≡ true → b ≡ true
right_of true b h = h
right_of false b h = clash h refl

wide_from : (types : Types) (name field : List ℕ) (q : ℤ) (n : ℕ) (rows : Rows) → ((k : ℕ) → IfSome (row_at rows k) (IsProper types)) → 0 < length (places_from (has_number_in name field q) n rows) → IsWide q
wide_from types name field q n [] all h = absurd (omega (arith, h))
wide_from types name field q n (None ∷ rows) all h = wide_from types name field q (suc n) rows (λ k. all (suc k)) h
wide_from types name field q n (Some d ∷ rows) all h = by_test (has_number_in name field q d) refl h (wide_from types name field q (suc n) rows (λ k. all (suc k)))
  where
    by_test : (t : Bool) → has_number_in name field q d ≡ t → 0 < length (cond t (n ∷ places_from (has_number_in name field q) (suc n) rows) (places_from (has_number_in name field q) (suc n) rows))
        → (0 < length (places_from (has_number_in name field q) (suc n) rows) → IsWide q) → IsWide q
    by_test true e i ih = (all 0).wide field q (right_of (is_of_type name d) (value_has_number q (fin.get d.fields field)) e)
    by_test false e i ih = ih i

pub wide_places : (types : Types) (name field : List ℕ) (q : ℤ) (rows : Rows) → ((k : ℕ) → IfSome (row_at rows k) (IsProper types)) → 0 < length (places_where (has_number_in name field q) rows) → IsWide q
wide_places types name field q rows all h = wide_from types name field q 0 rows all h

-- ---- values of their kinds

pub are_fitted : (types : Types) (rows : Rows) → ((k : ℕ) → IfSome (row_at rows k) (IsProper types)) → AreFitted types rows
are_fitted types [] all = tt
are_fitted types (None ∷ rows) all = are_fitted types rows (λ k. all (suc k))
are_fitted types (Some d ∷ rows) all = ((all 0).whole, are_fitted types rows (λ k. all (suc k)))
