-- Bodies in JSON: the name of a body under `body`, and its fields by their names.
use Rattle.std.specs.Prelude.{◌^◌, ℕ, List, map, codes, Option, Some, None, option_map, option_and_then, if◌then◌else◌}
use Rattle.std.specs.FinMap as fin
use Rattle.std.specs.Str.{bytes_eq}
use Rattle.serde_json.specs.Data.{Data, null, boolean, number, string, array, object, Members, no_members, put}
use Rattle.serde_json.specs.Find.{get, as_array}
use Rattle.serde_json.specs.View.{items_of}
use Rattle.bucket_ids.specs.Buckets.{Low}
use Rattle.bucket_ids.specs.Printed.{printed}
use Rattle.doc_types.specs.SchemaCodes.{Types}
use Rattle.messages.specs.declared.body.Body.{Body}
use Rattle.messages.specs.declared.body.Body.TheVariants as body
use Rattle.message_texts.specs.ByKey.{by_key}
use Rattle.message_texts.specs.Entries.{entry_data, entry_in, gathered}
use Rattle.message_texts.specs.Parts.{num, id_in, number_at, text_at, bucket_at}

-- ---- what is written

abbrev pub named : List ℕ → Members
named name = put (codes "body") (string name) no_members

abbrev pub named_on : List ℕ → Low → Members
named_on name b = put (codes "bucket") (string (printed b)) (named name)

abbrev pub id_data : Option (List ℕ) → Data
id_data None = null
id_data (Some id) = string id

abbrev pub body_members : Body → Members
body_members body.Ask = named (codes "ask")
body_members (body.Read b only) = put (codes "only") (id_data only) (named_on (codes "read") b)
body_members (body.Store e) = put (codes "entry") (entry_data e) (named (codes "store"))
body_members (body.Apply b m) = put (codes "entries") (array (items_of (map entry_data (by_key m)))) (named_on (codes "apply") b)
body_members (body.Delete b serial) = put (codes "serial") (num serial) (named_on (codes "delete") b)
body_members (body.Split b) = named_on (codes "split") b
body_members (body.Join b) = named_on (codes "join") b
body_members (body.Ready b) = named_on (codes "ready") b
body_members (body.Activate b) = named_on (codes "activate") b

-- ---- what is read

abbrev pub some_id : Option (List ℕ) → Option (Option (List ℕ))
some_id None = None
some_id (Some id) = Some (Some id)

-- an id, or null for none
abbrev pub only_in : Data → Option (Option (List ℕ))
only_in null = Some None
only_in (boolean b) = None
only_in (number n) = None
only_in (string text) = some_id (id_in text)
only_in (array ds) = None
only_in (object ms) = None

-- a body that has a bucket alone
abbrev pub bare : List ℕ → Low → Option Body
bare name b =
    if bytes_eq name (codes "split") then Some (body.Split b)
    else (if bytes_eq name (codes "join") then Some (body.Join b)
    else (if bytes_eq name (codes "ready") then Some (body.Ready b)
    else (if bytes_eq name (codes "activate") then Some (body.Activate b)
    else None)))

abbrev pub on_bucket : Types → List ℕ → Data → Low → Option Body
on_bucket types name d b =
    if bytes_eq name (codes "read") then option_map (body.Read b) (option_and_then only_in (get (codes "only") d))
    else (if bytes_eq name (codes "apply") then option_map (body.Apply b) (option_and_then (gathered types b fin.empty) (option_and_then as_array (get (codes "entries") d)))
    else (if bytes_eq name (codes "delete") then option_map (body.Delete b) (number_at (2 ^ 64) (codes "serial") d)
    else bare name b))

abbrev pub body_by : Types → Data → List ℕ → Option Body
body_by types d name =
    if bytes_eq name (codes "ask") then Some body.Ask
    else (if bytes_eq name (codes "store") then option_map body.Store (option_and_then (entry_in types) (get (codes "entry") d))
    else option_and_then (on_bucket types name d) (bucket_at d))

-- the body that a value says
unfoldable pub body_in : Types → Data → Option Body
body_in types d = option_and_then (body_by types d) (text_at (codes "body") d)
