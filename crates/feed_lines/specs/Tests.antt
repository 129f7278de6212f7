-- What a line has to meet, in the order of the causes of a bad line.
use Rattle.std.specs.Prelude.{◌&&◌, ℕ, Bool, true, false, not, List, [], ◌∷◌, codes, Option, Some, None, is_some, is_ok, option_and_then, nat_lt, if◌then◌else◌}
use Rattle.std.specs.FinMap as fin
use Rattle.serde_json.specs.Data.{Data, Members, no_members}
use Rattle.serde_json.specs.Find.{get, as_object, as_str, as_bool}
use Rattle.doc_types.specs.SchemaCodes.{Types}
use Rattle.json_documents.specs.Schemas.{members_in}
use Rattle.document_ids.specs.Parts.{parts_of, type_of}
use Rattle.json_documents.specs.DocumentFaults.{first_name, is_unknown, is_wrong}
use Rattle.documents.specs.Kinds.{Kinds, kinds_of}
use Rattle.json_documents.specs.Json.{fields_in}
use Rattle.documents.specs.Sizes.{largest, size_of}
use Rattle.json_documents.specs.Updates as update
use Rattle.conditions.specs.Formulas.{Formula}
use Rattle.doc_selection.specs.Saying.{selection_in}
use Rattle.doc_selection.specs.declared.terms.Term.{Term}
use Rattle.feed_lines.specs.Keys.{only_verb, name_of, all_stand, are_net_keys}
use Rattle.feed_lines.specs.Values.{node_of, lane_of, set_said, fates_of}
use Rattle.feed_lines.specs.declared.command.Cause.{Cause}
use Rattle.feed_lines.specs.declared.command.Cause.TheVariants as cause
use Rattle.feed_lines.specs.declared.keys.Verb.{Verb}
use Rattle.feed_lines.specs.declared.keys.Verb.TheVariants as verb
use Rattle.feed_lines.specs.declared.keys.LineVerb.{LineVerb}
use Rattle.feed_lines.specs.declared.keys.LineVerb.TheVariants as line
use Rattle.carriers.specs.declared.fate.Fate.{Fate}

-- the first test that fails gives its cause
abbrev pub first_cause : List (Bool × Cause) → Option Cause
first_cause [] = None
first_cause (t ∷ ts) = if t.0 then first_cause ts else Some t.1

-- the members of an object; of another value none
abbrev pub members_of : Data → Members
members_of d = members_in (as_object d)

-- the line's verb, where it is an object with exactly one
abbrev pub verb_of : Data → Option LineVerb
verb_of d = only_verb (members_of d)

-- the value of `fields`
abbrev pub fields_of : Data → Option Data
fields_of d = get (codes "fields") d

abbrev pub has_wanted : Verb → Option Data → Bool
has_wanted verb.Put fields = is_some fields
has_wanted verb.Update fields = is_some fields
has_wanted verb.Remove fields = true
has_wanted verb.Get fields = true

-- what the object of `net` says
abbrev pub net_of : Data → Option Data
net_of d = get (codes "net") d

abbrev pub net_members : Option Data → Members
net_members None = no_members
net_members (Some net) = members_of net

abbrev pub in_net : List ℕ → Option Data → Option Data
in_net key net = option_and_then (get key) net

-- the object of `net` has `lane`, `fates` and nothing else
abbrev pub has_net_keys : Option Data → Bool
has_net_keys net = are_net_keys (net_members net) && is_some (in_net (codes "lane") net) && is_some (in_net (codes "fates") net)

-- the keys that the verb wants
abbrev pub has_own_keys : LineVerb → Data → Bool
has_own_keys (line.Feed v) d = has_wanted v (fields_of d)
has_own_keys line.Search d = true
has_own_keys line.State d = true
has_own_keys line.Stop d = true
has_own_keys line.Start d = true
has_own_keys line.Net d = has_net_keys (net_of d)
has_own_keys line.Maintain d = true
has_own_keys line.Barrier d = true

-- no key but the verb's own, and those that are wanted
abbrev pub has_right_keys : LineVerb → Data → Bool
has_right_keys v d = all_stand v (members_of d) && has_own_keys v d

-- the verb's value, where it is the text of a document id
abbrev pub as_id : Option (List ℕ) → Option (List ℕ)
as_id None = None
as_id (Some text) = if is_ok (parts_of text) then Some text else None

unfoldable pub id_in : Verb → Data → Option (List ℕ)
id_in v d = as_id (option_and_then as_str (get (name_of v) d))

-- the schema has the id's type
abbrev pub has_type : Types → List ℕ → Bool
has_type types id = is_some (fin.get types (type_of id))

-- the members that `fields` has; of another value none
abbrev pub said_in : Option Data → Members
said_in None = no_members
said_in (Some fields) = members_of fields

abbrev pub kinds_for : Types → List ℕ → Kinds
kinds_for types id = kinds_of types (type_of id)

-- each name in `fields` is a field of the type
abbrev pub are_known : Types → List ℕ → Option Data → Bool
are_known types id fields = not (is_some (first_name (is_unknown (kinds_for types id)) (said_in fields)))

abbrev pub has_fields : Types → Verb → List ℕ → Option Data → Bool
has_fields types verb.Put id fields = are_known types id fields
has_fields types verb.Update id fields = are_known types id fields
has_fields types verb.Remove id fields = true
has_fields types verb.Get id fields = true

abbrev pub is_object_in : Option Data → Bool
is_object_in None = false
is_object_in (Some fields) = is_some (as_object fields)

-- `fields` is an object, and each value in it is right for the verb
abbrev pub has_values : Types → Verb → List ℕ → Option Data → Bool
has_values types verb.Put id fields = is_object_in fields && not (is_some (first_name (is_wrong (kinds_for types id)) (said_in fields)))
has_values types verb.Update id fields = is_object_in fields && not (is_some (first_name (update.is_wrong (kinds_for types id)) (said_in fields)))
has_values types verb.Remove id fields = true
has_values types verb.Get id fields = true

-- the document of a put isn't too large
abbrev pub has_size : Types → Verb → List ℕ → Option Data → Bool
has_size types verb.Put id fields = not (nat_lt largest (size_of (fields_in (kinds_for types id) (said_in fields))))
has_size types verb.Update id fields = true
has_size types verb.Remove id fields = true
has_size types verb.Get id fields = true

-- what stands beside the verb
pub record Beside : Type 0 where
  pub fields : Option Data
  pub condition : Option Data
  pub create : Option Data
  pub via : Option Data

abbrev pub beside_of : Data → Beside
beside_of d = record { fields = fields_of d; condition = get (codes "condition") d; create = get (codes "create") d; via = get (codes "via") d }

abbrev pub is_text_if : Option Data → Bool
is_text_if None = true
is_text_if (Some d) = is_some (as_str d)

abbrev pub is_truth_if : Option Data → Bool
is_truth_if None = true
is_truth_if (Some d) = is_some (as_bool d)

abbrev pub is_node_if : Option Data → Bool
is_node_if None = true
is_node_if (Some d) = is_some (node_of d)

-- where they are there, `condition` is a text, `create` a truth value and `via` the number of a distributor
abbrev pub has_options : Beside → Bool
has_options b = is_text_if b.condition && is_truth_if b.create && is_node_if b.via

-- the selection that `condition` says
abbrev pub condition_in : Types → Option Data → Option (Formula Term)
condition_in types None = None
condition_in types (Some d) = option_and_then (selection_in types) (as_str d)

-- where it is there, the text of `condition` is a selection
abbrev pub has_condition : Types → Option Data → Bool
has_condition types None = true
has_condition types (Some d) = is_some (option_and_then (selection_in types) (as_str d))

-- what the id and the fields have to meet
abbrev pub kind_tests : Types → Verb → List ℕ → Option Data → List (Bool × Cause)
kind_tests types v id fields = (has_type types id, cause.Type) ∷ (has_fields types v id fields, cause.Field) ∷ (has_values types v id fields, cause.Value)
    ∷ (has_size types v id fields, cause.Size) ∷ []

-- what the id and all that stands beside the verb have to meet
abbrev pub id_tests : Types → Verb → List ℕ → Beside → List (Bool × Cause)
id_tests types v id b = (has_type types id, cause.Type) ∷ (has_fields types v id b.fields, cause.Field)
    ∷ (has_values types v id b.fields && has_options b, cause.Value) ∷ (has_size types v id b.fields, cause.Size)
    ∷ (has_condition types b.condition, cause.Condition) ∷ []

abbrev pub text_of : Option (List ℕ) → List ℕ
text_of None = []
text_of (Some text) = text

-- what an operation has to meet
abbrev pub feed_tests : Types → Verb → Data → List (Bool × Cause)
feed_tests types v d = (is_some (id_in v d), cause.Id) ∷ id_tests types v (text_of (id_in v d)) (beside_of d)

-- the text of a query
abbrev pub search_in : Data → Option (List ℕ)
search_in d = option_and_then as_str (get (codes "search") d)

-- a state's text
abbrev pub state_in : Data → Option (List ℕ)
state_in d = option_and_then as_str (get (codes "state") d)

-- the distributors that don't hear of a state
abbrev pub deaf_in : Data → Option ℕ
deaf_in d = set_said (get (codes "deaf") d)

-- the node that is stopped or started
abbrev pub node_in : List ℕ → Data → Option ℕ
node_in key d = option_and_then node_of (get key d)

-- the lane whose messages are planned, one of 2^bits, and their fates
abbrev pub lane_in : ℕ → Data → Option ℕ
lane_in bits d = option_and_then (lane_of bits) (in_net (codes "lane") (net_of d))

abbrev pub fates_in : Data → Option (List Fate)
fates_in d = option_and_then fates_of (in_net (codes "fates") (net_of d))

-- a truth value; false where it isn't there
abbrev pub or_false : Option Bool → Bool
or_false None = false
or_false (Some b) = b

-- the value of a verb is the truth value true
abbrev pub is_true_in : List ℕ → Data → Bool
is_true_in key d = or_false (option_and_then as_bool (get key d))

-- what else a line of a verb has to meet
abbrev pub own_tests : Types → ℕ → LineVerb → Data → List (Bool × Cause)
own_tests types bits (line.Feed v) d = feed_tests types v d
own_tests types bits line.Search d = (is_some (search_in d), cause.Value) ∷ []
own_tests types bits line.State d = (is_some (state_in d) && is_some (deaf_in d), cause.Value) ∷ []
own_tests types bits line.Stop d = (is_some (node_in (codes "stop") d), cause.Value) ∷ []
own_tests types bits line.Start d = (is_some (node_in (codes "start") d), cause.Value) ∷ []
own_tests types bits line.Net d = (is_some (lane_in bits d) && is_some (fates_in d), cause.Value) ∷ []
own_tests types bits line.Maintain d = (is_true_in (codes "maintain") d, cause.Value) ∷ []
own_tests types bits line.Barrier d = (is_true_in (codes "barrier") d, cause.Value) ∷ []

-- what a line of a verb has to meet
abbrev pub tests : Types → ℕ → LineVerb → Data → List (Bool × Cause)
tests types bits v d = (has_right_keys v d, cause.Key) ∷ own_tests types bits v d
