-- What each kind of line is, in one record.
use Rattle.std.specs.Prelude.{◌≡◌, ◌≤◌, ℕ, Bool, true, false, List, [], codes, Option, Some, None, Ok, is_ok}
use Rattle.serde_json.specs.Data.{Data, Members, boolean, string, object}
use Rattle.serde_json.specs.Find.{get}
use Rattle.doc_types.specs.SchemaCodes.{Types}
use Rattle.document_ids.specs.Parts.{parts_of}
use Rattle.json_documents.specs.DocumentFaults.{first_name, is_unknown, is_wrong}
use Rattle.documents.specs.Fields.{Contents}
use Rattle.json_documents.specs.Json.{fields_in}
use Rattle.documents.specs.Sizes.{largest, size_of}
use Rattle.doc_updates.specs.Updates.{Changes}
use Rattle.json_documents.specs.Updates as update
use Rattle.conditions.specs.Formulas.{Formula}
use Rattle.doc_selection.specs.Saying.{selection_in}
use Rattle.doc_selection.specs.declared.terms.Term.{Term}
use Rattle.messages.specs.declared.operation.OpKind.{OpKind}
use Rattle.feed_lines.specs.Keys.{name_of, all_stand}
use Rattle.feed_lines.specs.Meaning.{data_said}
use Rattle.feed_lines.specs.Tests.{members_of, verb_of, has_type, kinds_for, net_of, in_net, has_net_keys}
use Rattle.feed_lines.specs.Values.{node_of, lane_of, set_of, nodes_of, fates_of}
use Rattle.carriers.specs.declared.fate.Fate.{Fate}
use Rattle.feed_lines.specs.declared.command.Command.TheVariants as command
use Rattle.feed_lines.specs.declared.keys.Verb.{Verb}
use Rattle.feed_lines.specs.declared.keys.Verb.TheVariants as verb
use Rattle.feed_lines.specs.declared.keys.LineVerb.{LineVerb}
use Rattle.feed_lines.specs.declared.keys.LineVerb.TheVariants as line

-- a line asks for this operation
abbrev pub Asks : Types → ℕ → Data → List ℕ → OpKind → Option (Formula Term) → Bool → Option ℕ → Type 0
Asks types bits d id kind condition create via = data_said types bits d ≡ Ok (command.Feed (record { id = id; kind = kind; condition = condition; create = create }) via)

-- the value of `condition`, if it is there, is a text that says this selection
abbrev pub SaysCondition : Types → Option Data → Option (Formula Term) → Type 0
SaysCondition types said None = said ≡ None
SaysCondition types said (Some condition) = (text : List ℕ) × ((said ≡ Some (string text)) × (selection_in types text ≡ Some condition))

-- the value of `create`, if it is there, is this truth value; where it isn't there, it is false
abbrev pub SaysCreate : Option Data → Bool → Type 0
SaysCreate None create = create ≡ false
SaysCreate (Some d) create = d ≡ boolean create

-- the value of `via`, if it is there, is this number of a distributor
abbrev pub SaysVia : Option Data → Option ℕ → Type 0
SaysVia None via = via ≡ None
SaysVia (Some d) via = (number : ℕ) × ((node_of d ≡ Some number) × (via ≡ Some number))

-- an object with this verb alone and no key that isn't the verb's
pub record HasVerb (v : LineVerb) (d : Data) : Type 0 where
  pub verb : verb_of d ≡ Some v
  pub keys : all_stand v (members_of d) ≡ true

-- such an object, as the verb's value the text of a document id whose type the schema has, and a condition, a truth
-- value and the number of a distributor that are right where they are there
pub record IsLine (types : Types) (v : Verb) (d : Data) (id : List ℕ) (condition : Option (Formula Term)) (create : Bool) (via : Option ℕ) : Type 0 where
  pub has_verb : HasVerb (line.Feed v) d
  pub text : get (name_of v) d ≡ Some (string id)
  pub is_id : is_ok (parts_of id) ≡ true
  pub typed : has_type types id ≡ true
  pub says_condition : SaysCondition types (get (codes "condition") d) condition
  pub says_create : SaysCreate (get (codes "create") d) create
  pub says_via : SaysVia (get (codes "via") d) via

-- such a line with the fields of a document, each known and right, which together aren't too large
pub record IsPut (types : Types) (d : Data) (id : List ℕ) (document : Contents) (condition : Option (Formula Term)) (create : Bool) (via : Option ℕ) : Type 0 where
  pub line : IsLine types verb.Put d id condition create via
  pub said : Members
  pub fields : get (codes "fields") d ≡ Some (object said)
  pub known : first_name (is_unknown (kinds_for types id)) said ≡ None
  pub right : first_name (is_wrong (kinds_for types id)) said ≡ None
  pub small : size_of (fields_in (kinds_for types id) said) ≤ largest
  pub content : document ≡ record { id = id; fields = fields_in (kinds_for types id) said }

-- such a line with changes of fields, each known and right
pub record IsUpdate (types : Types) (d : Data) (id : List ℕ) (changes : Changes) (condition : Option (Formula Term)) (create : Bool) (via : Option ℕ) : Type 0 where
  pub line : IsLine types verb.Update d id condition create via
  pub said : Members
  pub fields : get (codes "fields") d ≡ Some (object said)
  pub known : first_name (is_unknown (kinds_for types id)) said ≡ None
  pub right : first_name (update.is_wrong (kinds_for types id)) said ≡ None
  pub content : changes ≡ update.changes_in (kinds_for types id) said

-- the value of `deaf` is a list of these numbers; where it isn't there, there are none
abbrev pub SaysDeaf : Option Data → List ℕ → Type 0
SaysDeaf None nodes = nodes ≡ []
SaysDeaf (Some d) nodes = nodes_of d ≡ Some nodes

-- the text of a query as the value of the verb
pub record IsSearch (d : Data) (text : List ℕ) : Type 0 where
  pub has_verb : HasVerb line.Search d
  pub says_text : get (codes "search") d ≡ Some (string text)

-- the text of a state, and the distributors that don't hear of it
pub record IsState (d : Data) (text : List ℕ) (deaf : ℕ) : Type 0 where
  pub has_verb : HasVerb line.State d
  pub says_text : get (codes "state") d ≡ Some (string text)
  pub nodes : List ℕ
  pub says_deaf : SaysDeaf (get (codes "deaf") d) nodes
  pub is_set : deaf ≡ set_of nodes

-- the number of a node as the value of this verb
pub record IsNodeLine (v : LineVerb) (key : List ℕ) (d : Data) (node : ℕ) : Type 0 where
  pub has_verb : HasVerb v d
  pub said : Data
  pub value : get key d ≡ Some said
  pub number : node_of said ≡ Some node

-- the truth value true as the value of this verb
pub record IsBareLine (v : LineVerb) (key : List ℕ) (d : Data) : Type 0 where
  pub has_verb : HasVerb v d
  pub value : get key d ≡ Some (boolean true)

-- the lane whose coming messages are planned, and their fates, in an object with just these two
pub record IsNet (bits : ℕ) (d : Data) (lane : ℕ) (fates : List Fate) : Type 0 where
  pub has_verb : HasVerb line.Net d
  pub object : has_net_keys (net_of d) ≡ true
  pub said_lane : Data
  pub lane_there : in_net (codes "lane") (net_of d) ≡ Some said_lane
  pub says_lane : lane_of bits said_lane ≡ Some lane
  pub said_fates : Data
  pub fates_there : in_net (codes "fates") (net_of d) ≡ Some said_fates
  pub says_fates : fates_of said_fates ≡ Some fates
