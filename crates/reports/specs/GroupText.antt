-- What a report says of a group of documents.
use Rattle.std.specs.Prelude.{◌++◌, ℕ, ℤ, List, [], ◌∷◌, map, codes, Option, Some, None}
use Rattle.std.specs.Fmt.{signed_decimal}
use Rattle.serde_json.specs.Data.{Data, null, string, object, Members, no_members, member, put}
use Rattle.doc_types.specs.declared.outputs.OutputKind.{OutputKind}
use Rattle.doc_types.specs.declared.outputs.OutputKind.TheVariants as output
use Rattle.json_documents.specs.Json.{number_json, value_json}
use Rattle.query_groups.specs.declared.answers.Group.{Group}
use Rattle.query_groups.specs.declared.answers.Output.{Output}

-- `count`, or as `sum(year)`
abbrev pub output_key : OutputKind → List ℕ
output_key output.Count = codes "count"
output_key (output.Sum field) = codes "sum(" ++ (field ++ codes ")")
output_key (output.Min field) = codes "min(" ++ (field ++ codes ")")
output_key (output.Max field) = codes "max(" ++ (field ++ codes ")")

-- a number, or null for none
abbrev pub number_or_null : Option ℤ → Data
number_or_null None = null
number_or_null (Some z) = number_json z

-- the text of a number's decimal digits, with a `-` before them where it is below 0
abbrev pub digits_or_null : Option ℤ → Data
digits_or_null None = null
digits_or_null (Some z) = string (signed_decimal z)

abbrev pub output_json : OutputKind → Option ℤ → Data
output_json output.Count v = number_or_null v
output_json (output.Sum field) v = digits_or_null v
output_json (output.Min field) v = number_or_null v
output_json (output.Max field) v = number_or_null v

-- members with one more for each output, in the rising order of their keys
abbrev pub with_outputs : List Output → Members → Members
with_outputs [] ms = ms
with_outputs (o ∷ os) ms = with_outputs os (put (output_key o.kind) (output_json o.kind o.value) ms)

-- a group: its value, and one key per output
abbrev pub group_members : Group → Members
group_members g = with_outputs g.outputs (member (codes "value") (value_json g.value) no_members)

abbrev pub groups_json : List Group → List Data
groups_json gs = map (λ g. object (group_members g)) gs
