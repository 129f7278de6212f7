-- Entries in JSON.
use Rattle.std.specs.Prelude.{◌&&◌, ◌^◌, ℕ, ℤ, pos, negsuc, Bool, true, false, List, length, nat_lt, nat_le, codes, is_some, Option, Some, None, option_and_then, if◌then◌else◌}
use Rattle.std.specs.FinMap as fin
use Rattle.std.specs.List.{list_all}
use Rattle.serde_json.specs.Data.{Data, null, boolean, number, string, array, object, Items, no_items, item, no_members, put}
use Rattle.serde_json.specs.Find.{get}
use Rattle.bucket_ids.specs.Buckets.{Low}
use Rattle.document_ids.specs.Parts.{type_of}
use Rattle.stamps.specs.Printed.{printed, stamp_in}
use Rattle.stamps.specs.declared.stamp.Stamp.{Stamp}
use Rattle.doc_types.specs.SchemaCodes.{Types}
use Rattle.doc_types.specs.Values.{kind_of}
use Rattle.doc_types.specs.declared.values.FieldType.{FieldType}
use Rattle.doc_types.specs.declared.values.FieldType.TheVariants as kind
use Rattle.doc_types.specs.declared.values.FieldValue.{FieldValue}
use Rattle.doc_types.specs.declared.values.FieldValue.TheVariants.{Int, Text, Ints, Texts}
use Rattle.documents.specs.Fields.{Contents}
use Rattle.documents.specs.Kinds.{Kinds, kinds_of, most_items}
use Rattle.documents.specs.Sizes.{size_of, largest}
use Rattle.documents.specs.declared.entry.Entry.{Entry}
use Rattle.entry_maps.specs.EntryCodes.{Entries}
use Rattle.entry_maps.specs.Entries.{in_bucket, is_newer, with_entry}
use Rattle.json_documents.specs.DocumentFaults.{document_fault}
use Rattle.json_documents.specs.Json.{fields_in, fields_json}
use Rattle.message_texts.specs.Parts.{id_in, text_at}

-- ---- what is written

-- the fields of a document, or null for a remove
abbrev pub fields_data : Option Contents → Data
fields_data None = null
fields_data (Some d) = object (fields_json d.fields)

abbrev pub entry_data : Entry → Data
entry_data e = object (put (codes "stamp") (string (printed e.stamp)) (put (codes "id") (string e.id) (put (codes "fields") (fields_data e.body) no_members)))

-- ---- what is read

-- a value that a field of a kind may have
abbrev pub is_small : ℤ → Bool
is_small (pos n) = nat_lt n (2 ^ 63)
is_small (negsuc n) = nat_lt n (2 ^ 63)

abbrev pub is_storable : FieldValue → Bool
is_storable (Int z) = is_small z
is_storable (Text t) = true
is_storable (Ints zs) = nat_le (length zs) most_items && list_all is_small zs
is_storable (Texts ts) = nat_le (length ts) most_items

abbrev pub is_kind : FieldType → FieldType → Bool
is_kind kind.Int kind.Int = true
is_kind kind.Text kind.Text = true
is_kind kind.IntArray kind.IntArray = true
is_kind kind.TextArray kind.TextArray = true
is_kind _ _ = false

abbrev pub is_kind_of : Option FieldType → FieldType → Bool
is_kind_of None k = false
is_kind_of (Some j) k = is_kind j k

abbrev pub is_allowed : Kinds → List ℕ × FieldValue → Bool
is_allowed kinds e = is_kind_of (kinds e.0) (kind_of e.1) && is_storable e.1

-- the document fits the schema
abbrev pub document_fits : Types → Contents → Bool
document_fits types d = is_some (fin.get types (type_of d.id)) && (list_all (is_allowed (kinds_of types (type_of d.id))) (fin.entries d.fields) && nat_le (size_of d.fields) largest)

abbrev pub if_fits : Types → Contents → Option (Option Contents)
if_fits types d = if document_fits types d then Some (Some d) else None

-- the document of an id that an object says, or a remove
abbrev pub body_in : Types → List ℕ → Data → Option (Option Contents)
body_in types id null = Some None
body_in types id (boolean b) = None
body_in types id (number n) = None
body_in types id (string s) = None
body_in types id (array ds) = None
body_in types id (object ms) = if is_some (document_fault types (type_of id) ms) then None else if_fits types (record { id = id; fields = fields_in (kinds_of types (type_of id)) ms })

abbrev pub entry_by : Option Stamp → Option (List ℕ) → Option (Option Contents) → Option Entry
entry_by (Some stamp) (Some id) (Some body) = Some (record { stamp = stamp; id = id; body = body })
entry_by _ _ _ = None

abbrev pub body_under : Types → Data → Option (List ℕ) → Option (Option Contents)
body_under types d None = None
body_under types d (Some id) = option_and_then (body_in types id) (get (codes "fields") d)

-- the entry that a value says
unfoldable pub entry_in : Types → Data → Option Entry
entry_in types d =
    let id = option_and_then id_in (text_at (codes "id") d) in
    entry_by (option_and_then stamp_in (text_at (codes "stamp") d)) id (body_under types d id)

-- an entry joins a map, where its key lies in the bucket and no newer one of its document is there
abbrev pub joined : Low → Entries → Option Entry → Option Entries
joined b m None = None
joined b m (Some e) = if in_bucket b e.id && is_newer e (fin.get m e.id) then Some (with_entry m e) else None

-- the map of the entries that the items of a list say, one after the other
abbrev pub gathered : Types → Low → Entries → Items → Option Entries
gathered types b m no_items = Some m
gathered types b m (item d ds) = option_and_then (λ n. gathered types b n ds) (joined b m (entry_in types d))
