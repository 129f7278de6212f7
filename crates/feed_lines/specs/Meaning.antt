-- What a line asks for, or its cause.
use Rattle.std.specs.Prelude.{◌==◌, ◌&&◌, ◌||◌, ◌≡◌, ℕ, Bool, true, false, List, [], codes, length, option_and_then, Option, Some, None, Result, Ok, Err, nat_le, if◌then◌else◌}
use Rattle.std.specs.List.{list_all}
use Rattle.std.specs.Str.{is_utf8}
use Rattle.serde_json.specs.Data.{Data}
use Rattle.serde_json.specs.Find.{as_str, as_bool}
use Rattle.serde_json.specs.Read.{read}
use Rattle.doc_types.specs.SchemaCodes.{Types}
use Rattle.json_documents.specs.Json.{fields_in}
use Rattle.documents.specs.declared.fault.DocumentFault.{DocumentFault}
use Rattle.documents.specs.declared.fault.DocumentFault.TheVariants as reason
use Rattle.json_documents.specs.Updates.{changes_in}
use Rattle.conditions.specs.Formulas.{Formula}
use Rattle.doc_selection.specs.Saying.{selection_in}
use Rattle.doc_selection.specs.declared.terms.Term.{Term}
use Rattle.io_ends.specs.Reading.{longest_line}
use Rattle.messages.specs.declared.operation.Operation.{Operation}
use Rattle.messages.specs.declared.operation.OpKind.{OpKind}
use Rattle.messages.specs.declared.operation.OpKind.TheVariants as kind
use Rattle.carriers.specs.declared.fate.Fate.{Fate}
use Rattle.feed_lines.specs.Values.{node_of}
use Rattle.feed_lines.specs.Tests.{or_false, first_cause, verb_of, id_in, Beside, beside_of, said_in, kinds_for, condition_in, kind_tests, id_tests, feed_tests, own_tests, search_in, state_in, deaf_in, node_in, lane_in, fates_in, text_of, tests}
use Rattle.feed_lines.specs.declared.command.Cause.{Cause}
use Rattle.feed_lines.specs.declared.command.Cause.TheVariants as cause
use Rattle.feed_lines.specs.declared.command.Command.{Command}
use Rattle.feed_lines.specs.declared.command.Command.TheVariants as command
use Rattle.feed_lines.specs.declared.command.LineFault.{LineFault}
use Rattle.feed_lines.specs.declared.command.LineFault.TheVariants as fault
use Rattle.feed_lines.specs.declared.keys.Verb.{Verb}
use Rattle.feed_lines.specs.declared.keys.Verb.TheVariants as verb
use Rattle.feed_lines.specs.declared.keys.LineVerb.{LineVerb}
use Rattle.feed_lines.specs.declared.keys.LineVerb.TheVariants as line

-- a space, a tab or CR
abbrev pub is_blank : ℕ → Bool
is_blank b = b == 32 || b == 9 || b == 13

unfoldable pub is_blank_line : List ℕ → Bool
is_blank_line bytes = nat_le (length bytes) longest_line && list_all is_blank bytes

-- what a verb asks of a document
abbrev pub kind_in : Types → Verb → List ℕ → Option Data → OpKind
kind_in types verb.Put id fields = kind.Put (record { id = id; fields = fields_in (kinds_for types id) (said_in fields) })
kind_in types verb.Update id fields = kind.Update (changes_in (kinds_for types id) (said_in fields))
kind_in types verb.Remove id fields = kind.Remove
kind_in types verb.Get id fields = kind.Get

abbrev pub create_in : Option Data → Bool
create_in None = false
create_in (Some d) = or_false (as_bool d)

abbrev pub operation_in : Types → Verb → List ℕ → Beside → Operation
operation_in types v id b = record { id = id; kind = kind_in types v id b.fields; condition = condition_in types b.condition; create = create_in b.create }

-- the distributor that an operation is handed to; none is named where `via` isn't there
abbrev pub via_in : Option Data → Option ℕ
via_in via = option_and_then node_of via

abbrev pub feed_in : Types → Verb → List ℕ → Beside → Command
feed_in types v id b = command.Feed (operation_in types v id b) (via_in b.via)

abbrev pub number_of : Option ℕ → ℕ
number_of None = 0
number_of (Some n) = n

abbrev pub list_of : {A : Type 0} → Option (List A) → List A
list_of None = []
list_of (Some xs) = xs

-- what a line of a verb asks for, where it meets all tests
abbrev pub command_in : Types → ℕ → LineVerb → Data → Command
command_in types bits (line.Feed v) d = feed_in types v (text_of (id_in v d)) (beside_of d)
command_in types bits line.Search d = command.Search (text_of (search_in d))
command_in types bits line.State d = command.State (text_of (state_in d)) (number_of (deaf_in d))
command_in types bits line.Stop d = command.Stop (number_of (node_in (codes "stop") d))
command_in types bits line.Start d = command.Start (number_of (node_in (codes "start") d))
command_in types bits line.Net d = command.Net (number_of (lane_in bits d)) (list_of (fates_in d))
command_in types bits line.Maintain d = command.Maintain
command_in types bits line.Barrier d = command.Barrier

abbrev pub answer_by : {A : Type 0} → Option Cause → A → Result A Cause
answer_by None c = Ok c
answer_by (Some why) c = Err why

-- what the fields say
abbrev pub kind_said : Types → Verb → List ℕ → Option Data → Result OpKind Cause
kind_said types v id fields = answer_by (first_cause (kind_tests types v id fields)) (kind_in types v id fields)

-- what the condition says
abbrev pub condition_by : Option (Formula Term) → Result (Option (Formula Term)) Cause
condition_by None = Err cause.Condition
condition_by (Some formula) = Ok (Some formula)

abbrev pub text_condition : Types → Option (List ℕ) → Result (Option (Formula Term)) Cause
text_condition types None = Err cause.Condition
text_condition types (Some text) = condition_by (selection_in types text)

abbrev pub condition_said : Types → Option Data → Result (Option (Formula Term)) Cause
condition_said types None = Ok None
condition_said types (Some d) = text_condition types (as_str d)

-- a wrong `condition` or `create` comes before the size
abbrev pub before_size : Cause → Cause
before_size cause.Size = cause.Value
before_size why = why

abbrev pub cause_by : Bool → Cause → Cause
cause_by true why = why
cause_by false why = before_size why

abbrev pub fault_by : Bool → LineFault → LineFault
fault_by right (fault.BadLine why) = fault.BadLine (cause_by right why)
fault_by right fault.NoMemory = fault.NoMemory

abbrev pub id_said : Types → Verb → List ℕ → Beside → Result Command Cause
id_said types v id b = answer_by (first_cause (id_tests types v id b)) (feed_in types v id b)

-- what an operation, a search, a state, a stop, a start, a plan of messages, upkeep and a barrier say behind their keys
abbrev pub feed_said : Types → Verb → Data → Result Command Cause
feed_said types v d = answer_by (first_cause (feed_tests types v d)) (feed_in types v (text_of (id_in v d)) (beside_of d))

abbrev pub search_said : Option (List ℕ) → Result Command Cause
search_said (Some text) = Ok (command.Search text)
search_said None = Err cause.Value

abbrev pub state_said : Option (List ℕ) → Option ℕ → Result Command Cause
state_said (Some text) (Some deaf) = Ok (command.State text deaf)
state_said (Some text) None = Err cause.Value
state_said None deaf = Err cause.Value

abbrev pub stop_said : Option ℕ → Result Command Cause
stop_said (Some node) = Ok (command.Stop node)
stop_said None = Err cause.Value

abbrev pub start_said : Option ℕ → Result Command Cause
start_said (Some node) = Ok (command.Start node)
start_said None = Err cause.Value

abbrev pub net_said : Option ℕ → Option (List Fate) → Result Command Cause
net_said (Some lane) (Some fates) = Ok (command.Net lane fates)
net_said (Some lane) None = Err cause.Value
net_said None fates = Err cause.Value

-- a line of a verb whose one value is true
abbrev pub bare_said : Command → Bool → Result Command Cause
bare_said asked true = Ok asked
bare_said asked false = Err cause.Value

-- what a line of a verb says that has the right keys
abbrev pub own_said : Types → ℕ → LineVerb → Data → Result Command Cause
own_said types bits v d = answer_by (first_cause (own_tests types bits v d)) (command_in types bits v d)

-- what a line of a verb says: the cause of the first test that it fails, or its command
abbrev pub verb_said : Types → ℕ → Data → Option LineVerb → Result Command Cause
verb_said types bits d None = Err cause.Object
verb_said types bits d (Some v) = answer_by (first_cause (tests types bits v d)) (command_in types bits v d)

abbrev pub data_said : Types → ℕ → Data → Result Command Cause
data_said types bits d = verb_said types bits d (verb_of d)

abbrev pub json_said : Types → ℕ → Option Data → Result Command Cause
json_said types bits None = Err cause.Json
json_said types bits (Some d) = data_said types bits d

unfoldable pub text_said : Types → ℕ → List ℕ → Result Command Cause
text_said types bits bytes = if is_utf8 bytes then json_said types bits (read bytes) else Err cause.Json

-- what a line says under a schema in a session of 2^bits lanes
unfoldable pub line_said : Types → ℕ → List ℕ → Result Command Cause
line_said types bits bytes = if is_blank_line bytes then Ok command.Blank else text_said types bits bytes

-- an answer of a call is what is said; want of memory alone is free
abbrev pub Gives : {A : Type 0} → Result A LineFault → Result A Cause → Type 0
Gives (Ok c) said = said ≡ Ok c
Gives (Err (fault.BadLine why)) said = said ≡ Err why
Gives (Err fault.NoMemory) said = Unit {0}

-- the cause that a fault of the fields is
abbrev pub cause_of : DocumentFault → LineFault
cause_of reason.UnknownType = fault.BadLine cause.Type
cause_of (reason.UnknownField name) = fault.BadLine cause.Field
cause_of (reason.WrongValue name) = fault.BadLine cause.Value
cause_of (reason.TooLarge size) = fault.BadLine cause.Size
cause_of reason.NoMemory = fault.NoMemory
