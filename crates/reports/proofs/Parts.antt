-- The parts of an answer, and how each is read off its report.
use Rattle.std.proofs.Common.{◌≡◌, ℕ, Bool, false, List, [], ◌∷◌, map, codes, Option, Some, None, option_map, refl, decimal, cond}
use Rattle.std.specs.FinMap as fin
use Rattle.std.specs.Str.{bytes_eq}
use Rattle.json.specs.Json as json
use Rattle.serde_json.specs.Data.{string, number, unsigned, no_members, member}
use Rattle.serde_json.specs.View.{items_of}
use Rattle.serde_json.specs.Written.{outline, items_outline, members_outline}
use Rattle.stamps.specs.declared.stamp.Stamp.{Stamp}
use Rattle.stamps.specs.Printed.{printed}
use Rattle.documents.specs.Fields.{FieldMap}
use Rattle.json_documents.specs.Json.{members_json}
use Rattle.doc_updates.specs.declared.fault.UpdateFault.TheVariants as fault
use Rattle.query_groups.specs.declared.answers.Group.{Group}
use Rattle.reports.specs.GroupText.{groups_json}
use Rattle.reports.specs.ReportText.{acked_members, found_members, seen_of, missing_members, condition_failed_members, nothing_members, field_fault_members, size_fault_members, result_members, too_few_members, owned_elsewhere_members, cause_text, bad_line_members, search_members, published_members, not_newer_members, too_few_up_members, too_many_out_members, count_members, planned_members, maintained_members, members_of}
use Rattle.reports.specs.declared.answer.Answer.{Answer}
use Rattle.reports.specs.declared.answer.Answer.TheVariants as answer

-- ---- reading a report

abbrev pub look : List ℕ → json.Members → Option json.Json
look key json.no_members = None
look key (json.member k j ms) = cond (bytes_eq key k) (Some j) (look key ms)

abbrev pub text_in : Option json.Json → List ℕ
text_in None = []
text_in (Some json.null) = []
text_in (Some (json.boolean b)) = []
text_in (Some (json.number s)) = []
text_in (Some (json.string s)) = s
text_in (Some (json.array js)) = []
text_in (Some (json.object ms)) = []

abbrev pub some_text : Option json.Json → Option (List ℕ)
some_text None = None
some_text (Some json.null) = None
some_text (Some (json.boolean b)) = None
some_text (Some (json.number s)) = None
some_text (Some (json.string s)) = Some s
some_text (Some (json.array js)) = None
some_text (Some (json.object ms)) = None

abbrev pub truth_in : Option json.Json → Bool
truth_in None = false
truth_in (Some json.null) = false
truth_in (Some (json.boolean b)) = b
truth_in (Some (json.number s)) = false
truth_in (Some (json.string s)) = false
truth_in (Some (json.array js)) = false
truth_in (Some (json.object ms)) = false

abbrev pub some_object : Option json.Json → Option json.Members
some_object None = None
some_object (Some json.null) = None
some_object (Some (json.boolean b)) = None
some_object (Some (json.number s)) = None
some_object (Some (json.string s)) = None
some_object (Some (json.array js)) = None
some_object (Some (json.object ms)) = Some ms

abbrev pub some_items : Option json.Json → Option json.Items
some_items None = None
some_items (Some json.null) = None
some_items (Some (json.boolean b)) = None
some_items (Some (json.number s)) = None
some_items (Some (json.string s)) = None
some_items (Some (json.array js)) = Some js
some_items (Some (json.object ms)) = None

abbrev pub or_else : {A : Type 0} → Option A → Option A → Option A
or_else None o = o
or_else (Some x) o = Some x

abbrev pub number_onto : Bool → json.Json → List (List ℕ) → List (List ℕ)
number_onto line json.null rest = rest
number_onto line (json.boolean b) rest = rest
number_onto line (json.number s) rest = cond line rest (s ∷ rest)
number_onto line (json.string s) rest = rest
number_onto line (json.array js) rest = rest
number_onto line (json.object ms) rest = rest

-- the numbers but the line's
abbrev pub numbers_in : json.Members → List (List ℕ)
numbers_in json.no_members = []
numbers_in (json.member k j ms) = number_onto (bytes_eq (codes "line") k) j (numbers_in ms)

-- ---- the parts of an answer

abbrev pub outline_of : FieldMap → json.Members
outline_of fields = members_outline (members_json (fin.entries fields))

abbrev pub groups_outline : List Group → json.Items
groups_outline groups = items_outline (items_of (groups_json groups))

abbrev pub word_of : Answer → List ℕ
word_of (answer.Acked stamp) = codes "acked"
word_of (answer.Found id document stamp) = codes "found"
word_of (answer.Missing seen) = codes "missing"
word_of answer.Nothing = codes "acked"
word_of (answer.ConditionFailed seen) = codes "conditionfailed"
word_of (answer.BadUpdate (fault.ZeroDivisor field)) = codes "badupdate"
word_of (answer.BadUpdate (fault.Overflow field)) = codes "badupdate"
word_of (answer.BadUpdate (fault.TooMany field)) = codes "badupdate"
word_of (answer.BadUpdate (fault.TooLarge size)) = codes "badupdate"
word_of (answer.BadUpdate fault.NoMemory) = codes "nomemory"
word_of (answer.TooFew answered needed absent) = codes "toofew"
word_of (answer.OwnedElsewhere owner version) = codes "notowner"
word_of answer.NoMemory = codes "nomemory"
word_of (answer.BadLine why) = codes "badline"
word_of answer.TooLong = codes "toolong"
word_of (answer.Search found) = codes "search"
word_of (answer.BadQuery offset) = codes "badquery"
word_of (answer.Published version) = codes "published"
word_of (answer.BadState offset) = codes "badstate"
word_of (answer.NotNewer have) = codes "notnewer"
word_of answer.NoDistributor = codes "nodistributor"
word_of (answer.TooFewUp up acks) = codes "toofewup"
word_of (answer.TooManyOut out acks) = codes "toomanyout"
word_of (answer.Stopped node) = codes "stopped"
word_of (answer.Started node) = codes "started"
word_of (answer.Planned taken) = codes "planned"
word_of answer.Barrier = codes "barrier"
word_of (answer.Maintained lanes rested blocked disturbed) = codes "maintained"

abbrev pub numbers_of : Answer → List ℕ
numbers_of (answer.Acked stamp) = []
numbers_of (answer.Found id document stamp) = []
numbers_of (answer.Missing seen) = []
numbers_of answer.Nothing = []
numbers_of (answer.ConditionFailed seen) = []
numbers_of (answer.BadUpdate (fault.ZeroDivisor field)) = []
numbers_of (answer.BadUpdate (fault.Overflow field)) = []
numbers_of (answer.BadUpdate (fault.TooMany field)) = []
numbers_of (answer.BadUpdate (fault.TooLarge size)) = size ∷ []
numbers_of (answer.BadUpdate fault.NoMemory) = []
numbers_of (answer.TooFew answered needed absent) = absent ∷ answered ∷ needed ∷ []
numbers_of (answer.OwnedElsewhere owner version) = owner ∷ version ∷ []
numbers_of answer.NoMemory = []
numbers_of (answer.BadLine why) = []
numbers_of answer.TooLong = []
numbers_of (answer.Search found) = found.count ∷ found.covered ∷ found.version ∷ []
numbers_of (answer.BadQuery offset) = offset ∷ []
numbers_of (answer.Published version) = version ∷ []
numbers_of (answer.BadState offset) = offset ∷ []
numbers_of (answer.NotNewer have) = have ∷ []
numbers_of answer.NoDistributor = []
numbers_of (answer.TooFewUp up acks) = acks ∷ up ∷ []
numbers_of (answer.TooManyOut out acks) = acks ∷ out ∷ []
numbers_of (answer.Stopped node) = node ∷ []
numbers_of (answer.Started node) = node ∷ []
numbers_of (answer.Planned taken) = []
numbers_of answer.Barrier = []
numbers_of (answer.Maintained lanes rested blocked disturbed) = blocked ∷ disturbed ∷ lanes ∷ rested ∷ []

abbrev pub stamp_of : Answer → Option Stamp
stamp_of (answer.Acked stamp) = Some stamp
stamp_of (answer.Found id document stamp) = Some stamp
stamp_of (answer.Missing seen) = seen
stamp_of answer.Nothing = None
stamp_of (answer.ConditionFailed seen) = seen
stamp_of (answer.BadUpdate (fault.ZeroDivisor field)) = None
stamp_of (answer.BadUpdate (fault.Overflow field)) = None
stamp_of (answer.BadUpdate (fault.TooMany field)) = None
stamp_of (answer.BadUpdate (fault.TooLarge size)) = None
stamp_of (answer.BadUpdate fault.NoMemory) = None
stamp_of (answer.TooFew answered needed absent) = None
stamp_of (answer.OwnedElsewhere owner version) = None
stamp_of answer.NoMemory = None
stamp_of (answer.BadLine why) = None
stamp_of answer.TooLong = None
stamp_of (answer.Search found) = None
stamp_of (answer.BadQuery offset) = None
stamp_of (answer.Published version) = None
stamp_of (answer.BadState offset) = None
stamp_of (answer.NotNewer have) = None
stamp_of answer.NoDistributor = None
stamp_of (answer.TooFewUp up acks) = None
stamp_of (answer.TooManyOut out acks) = None
stamp_of (answer.Stopped node) = None
stamp_of (answer.Started node) = None
stamp_of (answer.Planned taken) = None
stamp_of answer.Barrier = None
stamp_of (answer.Maintained lanes rested blocked disturbed) = None

abbrev pub taken_of : Answer → Bool
taken_of (answer.Acked stamp) = false
taken_of (answer.Found id document stamp) = false
taken_of (answer.Missing seen) = false
taken_of answer.Nothing = false
taken_of (answer.ConditionFailed seen) = false
taken_of (answer.BadUpdate (fault.ZeroDivisor field)) = false
taken_of (answer.BadUpdate (fault.Overflow field)) = false
taken_of (answer.BadUpdate (fault.TooMany field)) = false
taken_of (answer.BadUpdate (fault.TooLarge size)) = false
taken_of (answer.BadUpdate fault.NoMemory) = false
taken_of (answer.TooFew answered needed absent) = false
taken_of (answer.OwnedElsewhere owner version) = false
taken_of answer.NoMemory = false
taken_of (answer.BadLine why) = false
taken_of answer.TooLong = false
taken_of (answer.Search found) = found.full
taken_of (answer.BadQuery offset) = false
taken_of (answer.Published version) = false
taken_of (answer.BadState offset) = false
taken_of (answer.NotNewer have) = false
taken_of answer.NoDistributor = false
taken_of (answer.TooFewUp up acks) = false
taken_of (answer.TooManyOut out acks) = false
taken_of (answer.Stopped node) = false
taken_of (answer.Started node) = false
taken_of (answer.Planned taken) = taken
taken_of answer.Barrier = false
taken_of (answer.Maintained lanes rested blocked disturbed) = false

abbrev pub fault_of : Answer → List ℕ
fault_of (answer.Acked stamp) = []
fault_of (answer.Found id document stamp) = []
fault_of (answer.Missing seen) = []
fault_of answer.Nothing = []
fault_of (answer.ConditionFailed seen) = []
fault_of (answer.BadUpdate (fault.ZeroDivisor field)) = codes "zerodivisor"
fault_of (answer.BadUpdate (fault.Overflow field)) = codes "overflow"
fault_of (answer.BadUpdate (fault.TooMany field)) = codes "toomany"
fault_of (answer.BadUpdate (fault.TooLarge size)) = codes "toolarge"
fault_of (answer.BadUpdate fault.NoMemory) = []
fault_of (answer.TooFew answered needed absent) = []
fault_of (answer.OwnedElsewhere owner version) = []
fault_of answer.NoMemory = []
fault_of (answer.BadLine why) = []
fault_of answer.TooLong = []
fault_of (answer.Search found) = []
fault_of (answer.BadQuery offset) = []
fault_of (answer.Published version) = []
fault_of (answer.BadState offset) = []
fault_of (answer.NotNewer have) = []
fault_of answer.NoDistributor = []
fault_of (answer.TooFewUp up acks) = []
fault_of (answer.TooManyOut out acks) = []
fault_of (answer.Stopped node) = []
fault_of (answer.Started node) = []
fault_of (answer.Planned taken) = []
fault_of answer.Barrier = []
fault_of (answer.Maintained lanes rested blocked disturbed) = []

abbrev pub field_of : Answer → List ℕ
field_of (answer.Acked stamp) = []
field_of (answer.Found id document stamp) = []
field_of (answer.Missing seen) = []
field_of answer.Nothing = []
field_of (answer.ConditionFailed seen) = []
field_of (answer.BadUpdate (fault.ZeroDivisor field)) = field
field_of (answer.BadUpdate (fault.Overflow field)) = field
field_of (answer.BadUpdate (fault.TooMany field)) = field
field_of (answer.BadUpdate (fault.TooLarge size)) = []
field_of (answer.BadUpdate fault.NoMemory) = []
field_of (answer.TooFew answered needed absent) = []
field_of (answer.OwnedElsewhere owner version) = []
field_of answer.NoMemory = []
field_of (answer.BadLine why) = []
field_of answer.TooLong = []
field_of (answer.Search found) = []
field_of (answer.BadQuery offset) = []
field_of (answer.Published version) = []
field_of (answer.BadState offset) = []
field_of (answer.NotNewer have) = []
field_of answer.NoDistributor = []
field_of (answer.TooFewUp up acks) = []
field_of (answer.TooManyOut out acks) = []
field_of (answer.Stopped node) = []
field_of (answer.Started node) = []
field_of (answer.Planned taken) = []
field_of answer.Barrier = []
field_of (answer.Maintained lanes rested blocked disturbed) = []

abbrev pub cause_of : Answer → List ℕ
cause_of (answer.Acked stamp) = []
cause_of (answer.Found id document stamp) = []
cause_of (answer.Missing seen) = []
cause_of answer.Nothing = []
cause_of (answer.ConditionFailed seen) = []
cause_of (answer.BadUpdate (fault.ZeroDivisor field)) = []
cause_of (answer.BadUpdate (fault.Overflow field)) = []
cause_of (answer.BadUpdate (fault.TooMany field)) = []
cause_of (answer.BadUpdate (fault.TooLarge size)) = []
cause_of (answer.BadUpdate fault.NoMemory) = []
cause_of (answer.TooFew answered needed absent) = []
cause_of (answer.OwnedElsewhere owner version) = []
cause_of answer.NoMemory = []
cause_of (answer.BadLine why) = cause_text why
cause_of answer.TooLong = []
cause_of (answer.Search found) = []
cause_of (answer.BadQuery offset) = []
cause_of (answer.Published version) = []
cause_of (answer.BadState offset) = []
cause_of (answer.NotNewer have) = []
cause_of answer.NoDistributor = []
cause_of (answer.TooFewUp up acks) = []
cause_of (answer.TooManyOut out acks) = []
cause_of (answer.Stopped node) = []
cause_of (answer.Started node) = []
cause_of (answer.Planned taken) = []
cause_of answer.Barrier = []
cause_of (answer.Maintained lanes rested blocked disturbed) = []

abbrev pub id_of : Answer → List ℕ
id_of (answer.Acked stamp) = []
id_of (answer.Found id document stamp) = id
id_of (answer.Missing seen) = []
id_of answer.Nothing = []
id_of (answer.ConditionFailed seen) = []
id_of (answer.BadUpdate (fault.ZeroDivisor field)) = []
id_of (answer.BadUpdate (fault.Overflow field)) = []
id_of (answer.BadUpdate (fault.TooMany field)) = []
id_of (answer.BadUpdate (fault.TooLarge size)) = []
id_of (answer.BadUpdate fault.NoMemory) = []
id_of (answer.TooFew answered needed absent) = []
id_of (answer.OwnedElsewhere owner version) = []
id_of answer.NoMemory = []
id_of (answer.BadLine why) = []
id_of answer.TooLong = []
id_of (answer.Search found) = []
id_of (answer.BadQuery offset) = []
id_of (answer.Published version) = []
id_of (answer.BadState offset) = []
id_of (answer.NotNewer have) = []
id_of answer.NoDistributor = []
id_of (answer.TooFewUp up acks) = []
id_of (answer.TooManyOut out acks) = []
id_of (answer.Stopped node) = []
id_of (answer.Started node) = []
id_of (answer.Planned taken) = []
id_of answer.Barrier = []
id_of (answer.Maintained lanes rested blocked disturbed) = []

abbrev pub fields_of : Answer → Option FieldMap
fields_of (answer.Acked stamp) = None
fields_of (answer.Found id document stamp) = Some document.fields
fields_of (answer.Missing seen) = None
fields_of answer.Nothing = None
fields_of (answer.ConditionFailed seen) = None
fields_of (answer.BadUpdate (fault.ZeroDivisor field)) = None
fields_of (answer.BadUpdate (fault.Overflow field)) = None
fields_of (answer.BadUpdate (fault.TooMany field)) = None
fields_of (answer.BadUpdate (fault.TooLarge size)) = None
fields_of (answer.BadUpdate fault.NoMemory) = None
fields_of (answer.TooFew answered needed absent) = None
fields_of (answer.OwnedElsewhere owner version) = None
fields_of answer.NoMemory = None
fields_of (answer.BadLine why) = None
fields_of answer.TooLong = None
fields_of (answer.Search found) = None
fields_of (answer.BadQuery offset) = None
fields_of (answer.Published version) = None
fields_of (answer.BadState offset) = None
fields_of (answer.NotNewer have) = None
fields_of answer.NoDistributor = None
fields_of (answer.TooFewUp up acks) = None
fields_of (answer.TooManyOut out acks) = None
fields_of (answer.Stopped node) = None
fields_of (answer.Started node) = None
fields_of (answer.Planned taken) = None
fields_of answer.Barrier = None
fields_of (answer.Maintained lanes rested blocked disturbed) = None

abbrev pub groups_of : Answer → Option (List Group)
groups_of (answer.Acked stamp) = None
groups_of (answer.Found id document stamp) = None
groups_of (answer.Missing seen) = None
groups_of answer.Nothing = None
groups_of (answer.ConditionFailed seen) = None
groups_of (answer.BadUpdate (fault.ZeroDivisor field)) = None
groups_of (answer.BadUpdate (fault.Overflow field)) = None
groups_of (answer.BadUpdate (fault.TooMany field)) = None
groups_of (answer.BadUpdate (fault.TooLarge size)) = None
groups_of (answer.BadUpdate fault.NoMemory) = None
groups_of (answer.TooFew answered needed absent) = None
groups_of (answer.OwnedElsewhere owner version) = None
groups_of answer.NoMemory = None
groups_of (answer.BadLine why) = None
groups_of answer.TooLong = None
groups_of (answer.Search found) = Some found.groups
groups_of (answer.BadQuery offset) = None
groups_of (answer.Published version) = None
groups_of (answer.BadState offset) = None
groups_of (answer.NotNewer have) = None
groups_of answer.NoDistributor = None
groups_of (answer.TooFewUp up acks) = None
groups_of (answer.TooManyOut out acks) = None
groups_of (answer.Stopped node) = None
groups_of (answer.Started node) = None
groups_of (answer.Planned taken) = None
groups_of answer.Barrier = None
groups_of (answer.Maintained lanes rested blocked disturbed) = None

-- ---- each part is read off the report

pub word_read : (line : ℕ) (a : Answer) → text_in (look (codes "result") (members_outline (members_of line a))) ≡ word_of a
unfolding acked_members found_members missing_members condition_failed_members nothing_members field_fault_members size_fault_members result_members too_few_members owned_elsewhere_members bad_line_members search_members published_members not_newer_members too_few_up_members too_many_out_members count_members planned_members maintained_members
word_read line (answer.Acked stamp) = refl
word_read line (answer.Found id document stamp) = refl
word_read line (answer.Missing seen) = refl
word_read line answer.Nothing = refl
word_read line (answer.ConditionFailed seen) = refl
word_read line (answer.BadUpdate (fault.ZeroDivisor field)) = refl
word_read line (answer.BadUpdate (fault.Overflow field)) = refl
word_read line (answer.BadUpdate (fault.TooMany field)) = refl
word_read line (answer.BadUpdate (fault.TooLarge size)) = refl
word_read line (answer.BadUpdate fault.NoMemory) = refl
word_read line (answer.TooFew answered needed absent) = refl
word_read line (answer.OwnedElsewhere owner version) = refl
word_read line answer.NoMemory = refl
word_read line (answer.BadLine why) = refl
word_read line answer.TooLong = refl
word_read line (answer.Search found) = refl
word_read line (answer.BadQuery offset) = refl
word_read line (answer.Published version) = refl
word_read line (answer.BadState offset) = refl
word_read line (answer.NotNewer have) = refl
word_read line answer.NoDistributor = refl
word_read line (answer.TooFewUp up acks) = refl
word_read line (answer.TooManyOut out acks) = refl
word_read line (answer.Stopped node) = refl
word_read line (answer.Started node) = refl
word_read line (answer.Planned taken) = refl
word_read line answer.Barrier = refl
word_read line (answer.Maintained lanes rested blocked disturbed) = refl

pub no_number : (line : ℕ) (word : List ℕ) (seen : Option Stamp) → numbers_in (members_outline (member (codes "line") (number (unsigned line)) (member (codes "result") (string word) (member (codes "seen") (seen_of seen) no_members)))) ≡ []
no_number line word None = refl
no_number line word (Some stamp) = refl

pub numbers_read : (line : ℕ) (a : Answer) → numbers_in (members_outline (members_of line a)) ≡ map decimal (numbers_of a)
unfolding acked_members found_members missing_members condition_failed_members nothing_members field_fault_members size_fault_members result_members too_few_members owned_elsewhere_members bad_line_members search_members published_members not_newer_members too_few_up_members too_many_out_members count_members planned_members maintained_members
numbers_read line (answer.Acked stamp) = refl
numbers_read line (answer.Found id document stamp) = refl
numbers_read line (answer.Missing seen) = no_number line (codes "missing") seen
numbers_read line answer.Nothing = refl
numbers_read line (answer.ConditionFailed seen) = no_number line (codes "conditionfailed") seen
numbers_read line (answer.BadUpdate (fault.ZeroDivisor field)) = refl
numbers_read line (answer.BadUpdate (fault.Overflow field)) = refl
numbers_read line (answer.BadUpdate (fault.TooMany field)) = refl
numbers_read line (answer.BadUpdate (fault.TooLarge size)) = refl
numbers_read line (answer.BadUpdate fault.NoMemory) = refl
numbers_read line (answer.TooFew answered needed absent) = refl
numbers_read line (answer.OwnedElsewhere owner version) = refl
numbers_read line answer.NoMemory = refl
numbers_read line (answer.BadLine why) = refl
numbers_read line answer.TooLong = refl
numbers_read line (answer.Search found) = refl
numbers_read line (answer.BadQuery offset) = refl
numbers_read line (answer.Published version) = refl
numbers_read line (answer.BadState offset) = refl
numbers_read line (answer.NotNewer have) = refl
numbers_read line answer.NoDistributor = refl
numbers_read line (answer.TooFewUp up acks) = refl
numbers_read line (answer.TooManyOut out acks) = refl
numbers_read line (answer.Stopped node) = refl
numbers_read line (answer.Started node) = refl
numbers_read line (answer.Planned taken) = refl
numbers_read line answer.Barrier = refl
numbers_read line (answer.Maintained lanes rested blocked disturbed) = refl

pub seen_read : (seen : Option Stamp) → some_text (Some (outline (seen_of seen))) ≡ option_map printed seen
seen_read None = refl
seen_read (Some stamp) = refl

pub stamp_read : (line : ℕ) (a : Answer) → or_else (some_text (look (codes "stamp") (members_outline (members_of line a)))) (some_text (look (codes "seen") (members_outline (members_of line a)))) ≡ option_map printed (stamp_of a)
unfolding acked_members found_members missing_members condition_failed_members nothing_members field_fault_members size_fault_members result_members too_few_members owned_elsewhere_members bad_line_members search_members published_members not_newer_members too_few_up_members too_many_out_members count_members planned_members maintained_members
stamp_read line (answer.Acked stamp) = refl
stamp_read line (answer.Found id document stamp) = refl
stamp_read line (answer.Missing seen) = seen_read seen
stamp_read line answer.Nothing = refl
stamp_read line (answer.ConditionFailed seen) = seen_read seen
stamp_read line (answer.BadUpdate (fault.ZeroDivisor field)) = refl
stamp_read line (answer.BadUpdate (fault.Overflow field)) = refl
stamp_read line (answer.BadUpdate (fault.TooMany field)) = refl
stamp_read line (answer.BadUpdate (fault.TooLarge size)) = refl
stamp_read line (answer.BadUpdate fault.NoMemory) = refl
stamp_read line (answer.TooFew answered needed absent) = refl
stamp_read line (answer.OwnedElsewhere owner version) = refl
stamp_read line answer.NoMemory = refl
stamp_read line (answer.BadLine why) = refl
stamp_read line answer.TooLong = refl
stamp_read line (answer.Search found) = refl
stamp_read line (answer.BadQuery offset) = refl
stamp_read line (answer.Published version) = refl
stamp_read line (answer.BadState offset) = refl
stamp_read line (answer.NotNewer have) = refl
stamp_read line answer.NoDistributor = refl
stamp_read line (answer.TooFewUp up acks) = refl
stamp_read line (answer.TooManyOut out acks) = refl
stamp_read line (answer.Stopped node) = refl
stamp_read line (answer.Started node) = refl
stamp_read line (answer.Planned taken) = refl
stamp_read line answer.Barrier = refl
stamp_read line (answer.Maintained lanes rested blocked disturbed) = refl

pub taken_read : (line : ℕ) (a : Answer) → truth_in (or_else (look (codes "taken") (members_outline (members_of line a))) (look (codes "full") (members_outline (members_of line a)))) ≡ taken_of a
unfolding acked_members found_members missing_members condition_failed_members nothing_members field_fault_members size_fault_members result_members too_few_members owned_elsewhere_members bad_line_members search_members published_members not_newer_members too_few_up_members too_many_out_members count_members planned_members maintained_members
taken_read line (answer.Acked stamp) = refl
taken_read line (answer.Found id document stamp) = refl
taken_read line (answer.Missing seen) = refl
taken_read line answer.Nothing = refl
taken_read line (answer.ConditionFailed seen) = refl
taken_read line (answer.BadUpdate (fault.ZeroDivisor field)) = refl
taken_read line (answer.BadUpdate (fault.Overflow field)) = refl
taken_read line (answer.BadUpdate (fault.TooMany field)) = refl
taken_read line (answer.BadUpdate (fault.TooLarge size)) = refl
taken_read line (answer.BadUpdate fault.NoMemory) = refl
taken_read line (answer.TooFew answered needed absent) = refl
taken_read line (answer.OwnedElsewhere owner version) = refl
taken_read line answer.NoMemory = refl
taken_read line (answer.BadLine why) = refl
taken_read line answer.TooLong = refl
taken_read line (answer.Search found) = refl
taken_read line (answer.BadQuery offset) = refl
taken_read line (answer.Published version) = refl
taken_read line (answer.BadState offset) = refl
taken_read line (answer.NotNewer have) = refl
taken_read line answer.NoDistributor = refl
taken_read line (answer.TooFewUp up acks) = refl
taken_read line (answer.TooManyOut out acks) = refl
taken_read line (answer.Stopped node) = refl
taken_read line (answer.Started node) = refl
taken_read line (answer.Planned taken) = refl
taken_read line answer.Barrier = refl
taken_read line (answer.Maintained lanes rested blocked disturbed) = refl

pub fault_read : (line : ℕ) (a : Answer) → text_in (look (codes "fault") (members_outline (members_of line a))) ≡ fault_of a
unfolding acked_members found_members missing_members condition_failed_members nothing_members field_fault_members size_fault_members result_members too_few_members owned_elsewhere_members bad_line_members search_members published_members not_newer_members too_few_up_members too_many_out_members count_members planned_members maintained_members
fault_read line (answer.Acked stamp) = refl
fault_read line (answer.Found id document stamp) = refl
fault_read line (answer.Missing seen) = refl
fault_read line answer.Nothing = refl
fault_read line (answer.ConditionFailed seen) = refl
fault_read line (answer.BadUpdate (fault.ZeroDivisor field)) = refl
fault_read line (answer.BadUpdate (fault.Overflow field)) = refl
fault_read line (answer.BadUpdate (fault.TooMany field)) = refl
fault_read line (answer.BadUpdate (fault.TooLarge size)) = refl
fault_read line (answer.BadUpdate fault.NoMemory) = refl
fault_read line (answer.TooFew answered needed absent) = refl
fault_read line (answer.OwnedElsewhere owner version) = refl
fault_read line answer.NoMemory = refl
fault_read line (answer.BadLine why) = refl
fault_read line answer.TooLong = refl
fault_read line (answer.Search found) = refl
fault_read line (answer.BadQuery offset) = refl
fault_read line (answer.Published version) = refl
fault_read line (answer.BadState offset) = refl
fault_read line (answer.NotNewer have) = refl
fault_read line answer.NoDistributor = refl
fault_read line (answer.TooFewUp up acks) = refl
fault_read line (answer.TooManyOut out acks) = refl
fault_read line (answer.Stopped node) = refl
fault_read line (answer.Started node) = refl
fault_read line (answer.Planned taken) = refl
fault_read line answer.Barrier = refl
fault_read line (answer.Maintained lanes rested blocked disturbed) = refl

pub field_read : (line : ℕ) (a : Answer) → text_in (look (codes "field") (members_outline (members_of line a))) ≡ field_of a
unfolding acked_members found_members missing_members condition_failed_members nothing_members field_fault_members size_fault_members result_members too_few_members owned_elsewhere_members bad_line_members search_members published_members not_newer_members too_few_up_members too_many_out_members count_members planned_members maintained_members
field_read line (answer.Acked stamp) = refl
field_read line (answer.Found id document stamp) = refl
field_read line (answer.Missing seen) = refl
field_read line answer.Nothing = refl
field_read line (answer.ConditionFailed seen) = refl
field_read line (answer.BadUpdate (fault.ZeroDivisor field)) = refl
field_read line (answer.BadUpdate (fault.Overflow field)) = refl
field_read line (answer.BadUpdate (fault.TooMany field)) = refl
field_read line (answer.BadUpdate (fault.TooLarge size)) = refl
field_read line (answer.BadUpdate fault.NoMemory) = refl
field_read line (answer.TooFew answered needed absent) = refl
field_read line (answer.OwnedElsewhere owner version) = refl
field_read line answer.NoMemory = refl
field_read line (answer.BadLine why) = refl
field_read line answer.TooLong = refl
field_read line (answer.Search found) = refl
field_read line (answer.BadQuery offset) = refl
field_read line (answer.Published version) = refl
field_read line (answer.BadState offset) = refl
field_read line (answer.NotNewer have) = refl
field_read line answer.NoDistributor = refl
field_read line (answer.TooFewUp up acks) = refl
field_read line (answer.TooManyOut out acks) = refl
field_read line (answer.Stopped node) = refl
field_read line (answer.Started node) = refl
field_read line (answer.Planned taken) = refl
field_read line answer.Barrier = refl
field_read line (answer.Maintained lanes rested blocked disturbed) = refl

pub cause_read : (line : ℕ) (a : Answer) → text_in (look (codes "cause") (members_outline (members_of line a))) ≡ cause_of a
unfolding acked_members found_members missing_members condition_failed_members nothing_members field_fault_members size_fault_members result_members too_few_members owned_elsewhere_members bad_line_members search_members published_members not_newer_members too_few_up_members too_many_out_members count_members planned_members maintained_members
cause_read line (answer.Acked stamp) = refl
cause_read line (answer.Found id document stamp) = refl
cause_read line (answer.Missing seen) = refl
cause_read line answer.Nothing = refl
cause_read line (answer.ConditionFailed seen) = refl
cause_read line (answer.BadUpdate (fault.ZeroDivisor field)) = refl
cause_read line (answer.BadUpdate (fault.Overflow field)) = refl
cause_read line (answer.BadUpdate (fault.TooMany field)) = refl
cause_read line (answer.BadUpdate (fault.TooLarge size)) = refl
cause_read line (answer.BadUpdate fault.NoMemory) = refl
cause_read line (answer.TooFew answered needed absent) = refl
cause_read line (answer.OwnedElsewhere owner version) = refl
cause_read line answer.NoMemory = refl
cause_read line (answer.BadLine why) = refl
cause_read line answer.TooLong = refl
cause_read line (answer.Search found) = refl
cause_read line (answer.BadQuery offset) = refl
cause_read line (answer.Published version) = refl
cause_read line (answer.BadState offset) = refl
cause_read line (answer.NotNewer have) = refl
cause_read line answer.NoDistributor = refl
cause_read line (answer.TooFewUp up acks) = refl
cause_read line (answer.TooManyOut out acks) = refl
cause_read line (answer.Stopped node) = refl
cause_read line (answer.Started node) = refl
cause_read line (answer.Planned taken) = refl
cause_read line answer.Barrier = refl
cause_read line (answer.Maintained lanes rested blocked disturbed) = refl

pub id_read : (line : ℕ) (a : Answer) → text_in (look (codes "id") (members_outline (members_of line a))) ≡ id_of a
unfolding acked_members found_members missing_members condition_failed_members nothing_members field_fault_members size_fault_members result_members too_few_members owned_elsewhere_members bad_line_members search_members published_members not_newer_members too_few_up_members too_many_out_members count_members planned_members maintained_members
id_read line (answer.Acked stamp) = refl
id_read line (answer.Found id document stamp) = refl
id_read line (answer.Missing seen) = refl
id_read line answer.Nothing = refl
id_read line (answer.ConditionFailed seen) = refl
id_read line (answer.BadUpdate (fault.ZeroDivisor field)) = refl
id_read line (answer.BadUpdate (fault.Overflow field)) = refl
id_read line (answer.BadUpdate (fault.TooMany field)) = refl
id_read line (answer.BadUpdate (fault.TooLarge size)) = refl
id_read line (answer.BadUpdate fault.NoMemory) = refl
id_read line (answer.TooFew answered needed absent) = refl
id_read line (answer.OwnedElsewhere owner version) = refl
id_read line answer.NoMemory = refl
id_read line (answer.BadLine why) = refl
id_read line answer.TooLong = refl
id_read line (answer.Search found) = refl
id_read line (answer.BadQuery offset) = refl
id_read line (answer.Published version) = refl
id_read line (answer.BadState offset) = refl
id_read line (answer.NotNewer have) = refl
id_read line answer.NoDistributor = refl
id_read line (answer.TooFewUp up acks) = refl
id_read line (answer.TooManyOut out acks) = refl
id_read line (answer.Stopped node) = refl
id_read line (answer.Started node) = refl
id_read line (answer.Planned taken) = refl
id_read line answer.Barrier = refl
id_read line (answer.Maintained lanes rested blocked disturbed) = refl

pub fields_read : (line : ℕ) (a : Answer) → some_object (look (codes "fields") (members_outline (members_of line a))) ≡ option_map outline_of (fields_of a)
unfolding acked_members found_members missing_members condition_failed_members nothing_members field_fault_members size_fault_members result_members too_few_members owned_elsewhere_members bad_line_members search_members published_members not_newer_members too_few_up_members too_many_out_members count_members planned_members maintained_members
fields_read line (answer.Acked stamp) = refl
fields_read line (answer.Found id document stamp) = refl
fields_read line (answer.Missing seen) = refl
fields_read line answer.Nothing = refl
fields_read line (answer.ConditionFailed seen) = refl
fields_read line (answer.BadUpdate (fault.ZeroDivisor field)) = refl
fields_read line (answer.BadUpdate (fault.Overflow field)) = refl
fields_read line (answer.BadUpdate (fault.TooMany field)) = refl
fields_read line (answer.BadUpdate (fault.TooLarge size)) = refl
fields_read line (answer.BadUpdate fault.NoMemory) = refl
fields_read line (answer.TooFew answered needed absent) = refl
fields_read line (answer.OwnedElsewhere owner version) = refl
fields_read line answer.NoMemory = refl
fields_read line (answer.BadLine why) = refl
fields_read line answer.TooLong = refl
fields_read line (answer.Search found) = refl
fields_read line (answer.BadQuery offset) = refl
fields_read line (answer.Published version) = refl
fields_read line (answer.BadState offset) = refl
fields_read line (answer.NotNewer have) = refl
fields_read line answer.NoDistributor = refl
fields_read line (answer.TooFewUp up acks) = refl
fields_read line (answer.TooManyOut out acks) = refl
fields_read line (answer.Stopped node) = refl
fields_read line (answer.Started node) = refl
fields_read line (answer.Planned taken) = refl
fields_read line answer.Barrier = refl
fields_read line (answer.Maintained lanes rested blocked disturbed) = refl

pub groups_read : (line : ℕ) (a : Answer) → some_items (look (codes "groups") (members_outline (members_of line a))) ≡ option_map groups_outline (groups_of a)
unfolding acked_members found_members missing_members condition_failed_members nothing_members field_fault_members size_fault_members result_members too_few_members owned_elsewhere_members bad_line_members search_members published_members not_newer_members too_few_up_members too_many_out_members count_members planned_members maintained_members
groups_read line (answer.Acked stamp) = refl
groups_read line (answer.Found id document stamp) = refl
groups_read line (answer.Missing seen) = refl
groups_read line answer.Nothing = refl
groups_read line (answer.ConditionFailed seen) = refl
groups_read line (answer.BadUpdate (fault.ZeroDivisor field)) = refl
groups_read line (answer.BadUpdate (fault.Overflow field)) = refl
groups_read line (answer.BadUpdate (fault.TooMany field)) = refl
groups_read line (answer.BadUpdate (fault.TooLarge size)) = refl
groups_read line (answer.BadUpdate fault.NoMemory) = refl
groups_read line (answer.TooFew answered needed absent) = refl
groups_read line (answer.OwnedElsewhere owner version) = refl
groups_read line answer.NoMemory = refl
groups_read line (answer.BadLine why) = refl
groups_read line answer.TooLong = refl
groups_read line (answer.Search found) = refl
groups_read line (answer.BadQuery offset) = refl
groups_read line (answer.Published version) = refl
groups_read line (answer.BadState offset) = refl
groups_read line (answer.NotNewer have) = refl
groups_read line answer.NoDistributor = refl
groups_read line (answer.TooFewUp up acks) = refl
groups_read line (answer.TooManyOut out acks) = refl
groups_read line (answer.Stopped node) = refl
groups_read line (answer.Started node) = refl
groups_read line (answer.Planned taken) = refl
groups_read line answer.Barrier = refl
groups_read line (answer.Maintained lanes rested blocked disturbed) = refl
