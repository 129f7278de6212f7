-- That a report is one object with rising keys, and which answers a line can have.
use Rattle.std.specs.Prelude.{◌≡◌, ◌<◌, ◌^◌, ℕ, ℤ, pos, negsuc, Bool, true, false, List, [], ◌∷◌, ◌++◌, map, Option, Some, None}
use Rattle.std.specs.FinMap as fin
use Rattle.std.specs.List.{AllByRecursion}
use Rattle.std.specs.Ordering.{nat_cmp, match_ordering}
use Rattle.std.specs.Cmp.Lexicographic.{slice_cmp}
use Rattle.json.specs.Json as json
use Rattle.serde_json.specs.Data.{Members, no_members, member}
use Rattle.serde_json.specs.Written.{members_outline}
use Rattle.stamps.specs.declared.stamp.Stamp.{Stamp}
use Rattle.doc_types.specs.SchemaCodes.{Types}
use Rattle.doc_types.specs.declared.outputs.OutputKind.{OutputKind}
use Rattle.doc_types.specs.declared.values.FieldValue.{FieldValue}
use Rattle.doc_types.specs.declared.values.FieldValue.TheVariants.{Int, Text, Ints, Texts}
use Rattle.document_ids.specs.Parts.{type_of}
use Rattle.documents.specs.Fields.{Contents}
use Rattle.documents.specs.Fitting.{Fits}
use Rattle.documents.specs.Kinds.{kinds_of}
use Rattle.doc_updates.specs.declared.fault.UpdateFault.{UpdateFault}
use Rattle.doc_updates.specs.declared.fault.UpdateFault.TheVariants as fault
use Rattle.query_groups.specs.Outputs.{NamedOnce}
use Rattle.query_groups.specs.declared.answers.Group.{Group}
use Rattle.query_groups.specs.declared.answers.Output.{Output}
use Rattle.query_groups.specs.declared.answers.SearchAnswer.{SearchAnswer}
use Rattle.reports.specs.declared.answer.Answer.{Answer}
use Rattle.reports.specs.declared.answer.Answer.TheVariants as answer

-- each key is below the next
abbrev pub are_rising : Members → Bool
are_rising no_members = true
are_rising (member key d no_members) = true
are_rising (member key d (member next e ms)) = match_ordering (slice_cmp nat_cmp key next) (are_rising (member next e ms)) false false

-- bytes are one JSON object of just these members, their keys rising, and a line feed
pub record IsOneObject (bytes : List ℕ) (ms : Members) : Type 0 where
  pub text : List ℕ
  pub line : bytes ≡ text ++ 10 ∷ []
  pub object : json.document text ≡ Some (json.object (members_outline ms))
  pub rising : are_rising ms ≡ true

-- a number of 64 bits, without a sign and with one
abbrev pub IsCount : ℕ → Type 0
IsCount n = n < 2 ^ 64

abbrev pub IsInt : ℤ → Type 0
IsInt (pos n) = n < 2 ^ 63
IsInt (negsuc n) = n < 2 ^ 63

-- a number of 128 bits with its sign
abbrev pub IsLong : ℤ → Type 0
IsLong (pos n) = n < 2 ^ 127
IsLong (negsuc n) = n < 2 ^ 127

abbrev pub IsLongIf : Option ℤ → Type 0
IsLongIf None = Unit {0}
IsLongIf (Some z) = IsLong z

pub record IsStamp (stamp : Stamp) : Type 0 where
  pub version : IsCount stamp.version
  pub count : IsCount stamp.count

abbrev pub IsStampIf : Option Stamp → Type 0
IsStampIf None = Unit {0}
IsStampIf (Some stamp) = IsStamp stamp

abbrev pub HasInts : FieldValue → Type 0
HasInts (Int z) = IsInt z
HasInts (Text t) = Unit {0}
HasInts (Ints zs) = AllByRecursion IsInt zs
HasInts (Texts ts) = Unit {0}

-- the document of an id, of a type of the schema
pub record IsDocument (types : Types) (id : List ℕ) (document : Contents) : Type 0 where
  pub own : document.id ≡ id
  pub fits : Fits (kinds_of types (type_of id)) (fin.entries document.fields)
  pub ints : AllByRecursion (λ e. HasInts e.1) (fin.entries document.fields)

-- groups are by a number or a text
abbrev pub IsGroupValue : FieldValue → Type 0
IsGroupValue (Int z) = IsInt z
IsGroupValue (Text t) = Unit {0}
IsGroupValue (Ints zs) = ⊥
IsGroupValue (Texts ts) = ⊥

-- a group of which a query asks just these outputs
pub record IsGroup (asked : List OutputKind) (group : Group) : Type 0 where
  pub value : IsGroupValue group.value
  pub outputs : map (λ (o : Output). o.kind) group.outputs ≡ asked
  pub numbers : AllByRecursion (λ (o : Output). IsLongIf o.value) group.outputs

-- what a query finds that asks these outputs, none of them twice
pub record IsFound (asked : List OutputKind) (found : SearchAnswer) : Type 0 where
  pub version : IsCount found.version
  pub count : IsCount found.count
  pub covered : IsCount found.covered
  pub once : NamedOnce [] asked
  pub groups : AllByRecursion (IsGroup asked) found.groups

-- a fault that an outcome tells; want of memory is an outcome of its own
abbrev pub IsFault : UpdateFault → Type 0
IsFault (fault.ZeroDivisor field) = Unit {0}
IsFault (fault.Overflow field) = Unit {0}
IsFault (fault.TooMany field) = Unit {0}
IsFault (fault.TooLarge size) = IsCount size
IsFault fault.NoMemory = ⊥

-- an answer that a line can have under a schema, where its query, if it has one, asks these outputs
abbrev pub CanBe : Types → List OutputKind → Answer → Type 0
CanBe types asked (answer.Acked stamp) = IsStamp stamp
CanBe types asked (answer.Found id document stamp) = IsDocument types id document × IsStamp stamp
CanBe types asked (answer.Missing seen) = IsStampIf seen
CanBe types asked answer.Nothing = Unit {0}
CanBe types asked (answer.ConditionFailed seen) = IsStampIf seen
CanBe types asked (answer.BadUpdate why) = IsFault why
CanBe types asked (answer.TooFew answered needed absent) = IsCount answered × IsCount needed × IsCount absent
CanBe types asked (answer.OwnedElsewhere owner version) = IsCount owner × IsCount version
CanBe types asked answer.NoMemory = Unit {0}
CanBe types asked (answer.BadLine why) = Unit {0}
CanBe types asked answer.TooLong = Unit {0}
CanBe types asked (answer.Search found) = IsFound asked found
CanBe types asked (answer.BadQuery offset) = IsCount offset
CanBe types asked (answer.Published version) = IsCount version
CanBe types asked (answer.BadState offset) = IsCount offset
CanBe types asked (answer.NotNewer have) = IsCount have
CanBe types asked answer.NoDistributor = Unit {0}
CanBe types asked (answer.TooFewUp up acks) = IsCount up × IsCount acks
CanBe types asked (answer.TooManyOut out acks) = IsCount out × IsCount acks
CanBe types asked (answer.Stopped node) = IsCount node
CanBe types asked (answer.Started node) = IsCount node
CanBe types asked (answer.Planned taken) = Unit {0}
CanBe types asked answer.Barrier = Unit {0}
CanBe types asked (answer.Maintained lanes rested blocked disturbed) = IsCount lanes × IsCount rested × IsCount blocked × IsCount disturbed

-- what is told of an answer: of a group how many documents it has is told only where that is an output
abbrev pub told_group : Group → Group
told_group g = record { value = g.value; count = 0; outputs = g.outputs }

abbrev pub as_told : Answer → Answer
as_told (answer.Search found) = answer.Search (record { version = found.version; count = found.count; covered = found.covered; full = found.full; groups = map told_group found.groups })
as_told a = a
