-- A node's documents by local id, with the types of the schema that their values are of.
use Rattle.std.specs.Prelude.{◌≡◌, Bool, false, List, [], ◌∷◌, map, fold, refl, Option, None, Some, if◌then◌else◌}
use Rattle.std.specs.Coded.{Coded, code_by, coded×, coded_list, coded_option}
use Rattle.bucket_ids.specs.Buckets.{Low, has_key}
use Rattle.global_ids.specs.Keys.{key_of}
use Rattle.doc_types.specs.SchemaCodes.{Types, types_code}
use Rattle.documents.specs.Fields.{Contents, contents_code}
use Rattle.documents.specs.declared.entry.Entry.{Entry}
use Rattle.document_rows.specs.Rows.{Rows, has_row, has_entry, fitted, without, taken_into}

-- rows, and the schema's types that their values are of
pub record TypedRows : Type 0 where
  pub types : Types
  pub rows : Rows

abbrev pub rows_code : Coded Rows
rows_code = coded_list (coded_option contents_code)

abbrev pub typed_code : Coded TypedRows
typed_code = code_by (Types × Rows) (coded× types_code rows_code) (λ t. (t.types, t.rows)) (λ p. record { types = p.0; rows = p.1 }) (λ _. refl)

-- other rows of the same schema
abbrev pub with_rows : Rows → TypedRows → TypedRows
with_rows rows t = record { types = t.types; rows = rows }

-- ---- what changes of many rows leave

-- some entries, one after the other
abbrev pub all_taken : Types → List Entry → Rows → Rows
all_taken types es rows = fold (taken_into types) rows es

-- the documents of some entries are gone
abbrev pub all_left : List Entry → Rows → Rows
all_left es rows = fold (λ rs e. without e.id rs) rows es

-- the document's key lies in the bucket
abbrev pub lies_in : Low → Option Contents → Bool
lies_in b None = false
lies_in b (Some d) = has_key b (key_of d.id)

-- each document of the bucket is gone
abbrev pub without_in : Low → Rows → Rows
without_in b rows = map (λ r. if lies_in b r then None else r) rows

-- entries of ids that no row has, each once
abbrev pub AreNew : Rows → List Entry → Type 0
AreNew rows [] = Unit {0}
AreNew rows (e ∷ es) = (has_row e.id rows ≡ false) × (has_entry e.id es ≡ false) × AreNew rows es

-- ---- what all rows of a schema keep

-- each value is of its kind
abbrev pub AreFitted : Types → Rows → Type 0
AreFitted types [] = Unit {0}
AreFitted types (None ∷ rows) = AreFitted types rows
AreFitted types (Some d ∷ rows) = (fitted types d ≡ d) × AreFitted types rows
