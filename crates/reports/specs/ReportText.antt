-- The bytes of a report.
use Rattle.std.specs.Prelude.{ℕ, Bool, false, List, [], ◌∷◌, ◌++◌, codes, Option, None, Some}
use Rattle.stamps.specs.declared.stamp.Stamp.{Stamp}
use Rattle.stamps.specs.Printed.{printed}
use Rattle.serde_json.specs.Data.{Data, null, boolean, number, unsigned, string, array, object, Members, member, no_members}
use Rattle.serde_json.specs.Written.{compact_text}
use Rattle.serde_json.specs.View.{items_of}
use Rattle.documents.specs.Fields.{Contents}
use Rattle.json_documents.specs.Json.{fields_json}
use Rattle.doc_updates.specs.declared.fault.UpdateFault.{UpdateFault}
use Rattle.doc_updates.specs.declared.fault.UpdateFault.TheVariants as fault
use Rattle.query_groups.specs.declared.answers.SearchAnswer.{SearchAnswer}
use Rattle.reports.specs.GroupText.{groups_json}
use Rattle.reports.specs.declared.answer.Answer.{Answer}
use Rattle.reports.specs.declared.answer.Answer.TheVariants as answer
use Rattle.feed_lines.specs.declared.command.Cause.{Cause}
use Rattle.feed_lines.specs.declared.command.Cause.TheVariants as cause

-- a compact object and a line feed
unfoldable pub line_text : Members → List ℕ
line_text members = compact_text (object members) ++ 10 ∷ []

-- the line's number, a result, and what else there is
abbrev pub with_result : ℕ → List ℕ → Members → Members
with_result line result more = member (codes "line") (number (unsigned line)) (member (codes "result") (string result) more)

-- the fields of a document
abbrev pub fields_of : Contents → Data
fields_of document = object (fields_json document.fields)

unfoldable pub acked_members : ℕ → Stamp → Members
acked_members line stamp = with_result line (codes "acked") (member (codes "stamp") (string (printed stamp)) no_members)

unfoldable pub found_members : ℕ → List ℕ → Contents → Stamp → Members
found_members line id document stamp =
    member (codes "fields") (fields_of document) (member (codes "id") (string id) (with_result line (codes "found") (member (codes "stamp") (string (printed stamp)) no_members)))

-- what was seen, or null
abbrev pub seen_of : Option Stamp → Data
seen_of None = null
seen_of (Some stamp) = string (printed stamp)

unfoldable pub missing_members : ℕ → Option Stamp → Members
missing_members line seen = with_result line (codes "missing") (member (codes "seen") (seen_of seen) no_members)

unfoldable pub condition_failed_members : ℕ → Option Stamp → Members
condition_failed_members line seen = with_result line (codes "conditionfailed") (member (codes "seen") (seen_of seen) no_members)

unfoldable pub nothing_members : ℕ → Members
nothing_members line = member (codes "found") (boolean false) (with_result line (codes "acked") no_members)

-- the fault of a field, and that of a size; an update that memory refused is reported as just that
unfoldable pub field_fault_members : ℕ → List ℕ → List ℕ → Members
field_fault_members line word field = member (codes "fault") (string word) (member (codes "field") (string field) (with_result line (codes "badupdate") no_members))

unfoldable pub size_fault_members : ℕ → ℕ → Members
size_fault_members line size = member (codes "fault") (string (codes "toolarge")) (with_result line (codes "badupdate") (member (codes "size") (number (unsigned size)) no_members))

-- a result alone
unfoldable pub result_members : ℕ → List ℕ → Members
result_members line word = with_result line word no_members

abbrev pub bad_update_members : ℕ → UpdateFault → Members
bad_update_members line (fault.ZeroDivisor field) = field_fault_members line (codes "zerodivisor") field
bad_update_members line (fault.Overflow field) = field_fault_members line (codes "overflow") field
bad_update_members line (fault.TooMany field) = field_fault_members line (codes "toomany") field
bad_update_members line (fault.TooLarge size) = size_fault_members line size
bad_update_members line fault.NoMemory = result_members line (codes "nomemory")

unfoldable pub too_few_members : ℕ → ℕ → ℕ → ℕ → Members
too_few_members line answered needed absent =
    member (codes "absent") (number (unsigned absent)) (member (codes "answered") (number (unsigned answered))
    (member (codes "line") (number (unsigned line)) (member (codes "needed") (number (unsigned needed)) (member (codes "result") (string (codes "toofew")) no_members))))

unfoldable pub owned_elsewhere_members : ℕ → ℕ → ℕ → Members
owned_elsewhere_members line owner version =
    member (codes "line") (number (unsigned line)) (member (codes "owner") (number (unsigned owner))
    (member (codes "result") (string (codes "notowner")) (member (codes "version") (number (unsigned version)) no_members)))

-- the word of a cause
abbrev pub cause_text : Cause → List ℕ
cause_text cause.Json = codes "json"
cause_text cause.Object = codes "object"
cause_text cause.Key = codes "key"
cause_text cause.Id = codes "id"
cause_text cause.Type = codes "type"
cause_text cause.Field = codes "field"
cause_text cause.Value = codes "value"
cause_text cause.Size = codes "size"
cause_text cause.Condition = codes "condition"

unfoldable pub bad_line_members : ℕ → Cause → Members
bad_line_members line why = member (codes "cause") (string (cause_text why)) (with_result line (codes "badline") no_members)

-- what a search found
unfoldable pub search_members : ℕ → SearchAnswer → Members
search_members line found =
    member (codes "count") (number (unsigned found.count)) (member (codes "covered") (number (unsigned found.covered)) (member (codes "full") (boolean found.full)
    (member (codes "groups") (array (items_of (groups_json found.groups))) (with_result line (codes "search") (member (codes "version") (number (unsigned found.version)) no_members)))))

unfoldable pub published_members : ℕ → ℕ → Members
published_members line version = with_result line (codes "published") (member (codes "version") (number (unsigned version)) no_members)

unfoldable pub not_newer_members : ℕ → ℕ → Members
not_newer_members line have = member (codes "have") (number (unsigned have)) (with_result line (codes "notnewer") no_members)

unfoldable pub too_few_up_members : ℕ → ℕ → ℕ → Members
too_few_up_members line up acks = member (codes "acks") (number (unsigned acks)) (with_result line (codes "toofewup") (member (codes "up") (number (unsigned up)) no_members))

unfoldable pub too_many_out_members : ℕ → ℕ → ℕ → Members
too_many_out_members line out acks =
    member (codes "acks") (number (unsigned acks)) (member (codes "line") (number (unsigned line)) (member (codes "out") (number (unsigned out))
    (member (codes "result") (string (codes "toomanyout")) no_members)))

-- a count whose name stands between the line's number and the result
unfoldable pub count_members : ℕ → List ℕ → ℕ → List ℕ → Members
count_members line name count result = member (codes "line") (number (unsigned line)) (member name (number (unsigned count)) (member (codes "result") (string result) no_members))

unfoldable pub planned_members : ℕ → Bool → Members
planned_members line taken = with_result line (codes "planned") (member (codes "taken") (boolean taken) no_members)

unfoldable pub maintained_members : ℕ → ℕ → ℕ → ℕ → ℕ → Members
maintained_members line lanes rested blocked disturbed =
    member (codes "blocked") (number (unsigned blocked)) (member (codes "disturbed") (number (unsigned disturbed)) (member (codes "lanes") (number (unsigned lanes))
    (member (codes "line") (number (unsigned line)) (member (codes "rested") (number (unsigned rested)) (member (codes "result") (string (codes "maintained")) no_members)))))

-- what is told of an answer
abbrev pub members_of : ℕ → Answer → Members
members_of line (answer.Acked stamp) = acked_members line stamp
members_of line (answer.Found id document stamp) = found_members line id document stamp
members_of line (answer.Missing seen) = missing_members line seen
members_of line answer.Nothing = nothing_members line
members_of line (answer.ConditionFailed seen) = condition_failed_members line seen
members_of line (answer.BadUpdate why) = bad_update_members line why
members_of line (answer.TooFew answered needed absent) = too_few_members line answered needed absent
members_of line (answer.OwnedElsewhere owner version) = owned_elsewhere_members line owner version
members_of line answer.NoMemory = result_members line (codes "nomemory")
members_of line (answer.BadLine why) = bad_line_members line why
members_of line answer.TooLong = result_members line (codes "toolong")
members_of line (answer.Search found) = search_members line found
members_of line (answer.BadQuery offset) = count_members line (codes "offset") offset (codes "badquery")
members_of line (answer.Published version) = published_members line version
members_of line (answer.BadState offset) = count_members line (codes "offset") offset (codes "badstate")
members_of line (answer.NotNewer have) = not_newer_members line have
members_of line answer.NoDistributor = result_members line (codes "nodistributor")
members_of line (answer.TooFewUp up acks) = too_few_up_members line up acks
members_of line (answer.TooManyOut out acks) = too_many_out_members line out acks
members_of line (answer.Stopped node) = count_members line (codes "node") node (codes "stopped")
members_of line (answer.Started node) = count_members line (codes "node") node (codes "started")
members_of line (answer.Planned taken) = planned_members line taken
members_of line answer.Barrier = result_members line (codes "barrier")
members_of line (answer.Maintained lanes rested blocked disturbed) = maintained_members line lanes rested blocked disturbed

-- the report of an answer
abbrev pub report_text : ℕ → Answer → List ℕ
report_text line told = line_text (members_of line told)

unfoldable pub usage_text : List ℕ
usage_text = line_text (member (codes "result") (string (codes "usage")) no_members)
