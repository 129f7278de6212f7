-- The documents of a node by local id: a list of places, each free or with a document.
use Rattle.std.specs.Prelude.{◌≡◌, ℕ, Bool, false, not, nat_lt, List, [], ◌∷◌, map, Option, None, Some, is_some, if◌then◌else◌}
use Rattle.std.specs.List.{list_any, position_or_len}
use Rattle.std.specs.FinMap as fin
use Rattle.std.specs.Str.{bytes_eq}
use Rattle.document_ids.specs.Parts.{type_of}
use Rattle.doc_types.specs.declared.values.FieldType.{FieldType}
use Rattle.doc_types.specs.declared.values.FieldValue.{FieldValue}
use Rattle.doc_types.specs.SchemaCodes.{Types, Fields}
use Rattle.doc_types.specs.Values.{kind_of}
use Rattle.documents.specs.Fields.{Contents, FieldMap}
use Rattle.documents.specs.declared.entry.Entry.{Entry}
use Rattle.document_rows.specs.Kinds.{same_kind}

abbrev pub Rows : Type 0
Rows = List (Option Contents)

-- ---- which values a document may have

-- a value is of the kind of its field
abbrev pub fits : Option FieldType → Option FieldValue → Bool
fits (Some k) (Some v) = same_kind k (kind_of v)
fits _ _ = false

abbrev pub kind_in : Option Fields → List ℕ → Option FieldType
kind_in None name = None
kind_in (Some fields) name = fin.get fields name

-- the fields whose values are of their kinds in the schema
abbrev pub fitted_fields : Types → List ℕ → FieldMap → FieldMap
fitted_fields types name fields = fin.retain_keys fields (λ f. fits (kind_in (fin.get types name) f) (fin.get fields f))

-- the document without the values that aren't of their kinds
abbrev pub fitted : Types → Contents → Contents
fitted types d = record { id = d.id; fields = fitted_fields types (type_of d.id) d.fields }

-- ---- places

-- the place has the document of this id
abbrev pub is_of : List ℕ → Option Contents → Bool
is_of id None = false
is_of id (Some d) = bytes_eq d.id id

abbrev pub is_free : Option Contents → Bool
is_free r = not (is_some r)

-- some place has the document
abbrev pub has_row : List ℕ → Rows → Bool
has_row id rows = list_any (is_of id) rows

-- an entry has this id
abbrev pub has_entry : List ℕ → List Entry → Bool
has_entry id es = list_any (λ e. bytes_eq e.id id) es

-- the document of an id
abbrev pub document_of : List ℕ → Rows → Option Contents
document_of id [] = None
document_of id (r ∷ rows) = if is_of id r then r else document_of id rows

-- the least free place, be it behind the last
abbrev pub free_place : Rows → ℕ
free_place rows = position_or_len is_free rows

-- ---- what a change makes of them

-- the document at the least free place
abbrev pub put_free : Contents → Rows → Rows
put_free d [] = Some d ∷ []
put_free d (None ∷ rows) = Some d ∷ rows
put_free d (Some e ∷ rows) = Some e ∷ put_free d rows

-- the document at the place that it has
abbrev pub replaced : Contents → Rows → Rows
replaced d rows = map (λ r. if is_of d.id r then Some d else r) rows

-- the document's place is free
abbrev pub without : List ℕ → Rows → Rows
without id rows = map (λ r. if is_of id r then None else r) rows

-- a new document comes to the least free place, if that is below 2^32 - 1
abbrev pub with_document : Contents → Rows → Rows
with_document d rows = if has_row d.id rows then replaced d rows else (if nat_lt (free_place rows) 4294967295 then put_free d rows else rows)

-- what an entry with this body leaves; a document of another id counts as none
abbrev pub after_body : Types → List ℕ → Option Contents → Rows → Rows
after_body types id None rows = without id rows
after_body types id (Some d) rows = if bytes_eq d.id id then with_document (fitted types d) rows else without id rows

-- what an entry leaves
abbrev pub taken_into : Types → Rows → Entry → Rows
taken_into types rows e = after_body types e.id e.body rows

-- ---- what all rows keep

-- no document has two places
abbrev pub AreDistinct : Rows → Type 0
AreDistinct [] = Unit {0}
AreDistinct (None ∷ rows) = AreDistinct rows
AreDistinct (Some d ∷ rows) = (has_row d.id rows ≡ false) × AreDistinct rows
