-- What an update is, and what it makes of a document's fields.
use Rattle.std.specs.Prelude.{ℕ, List, [], ◌∷◌, map, Option, Some, None, Result, Ok, Err, nat_lt, if◌then◌else◌}
use Rattle.std.specs.Coded.{Coded, coded_ℕ, coded_list}
use Rattle.std.specs.FinMap as fin
use Rattle.doc_types.specs.SchemaCodes.{name_cmp}
use Rattle.doc_types.specs.declared.values.FieldValue.{FieldValue}
use Rattle.documents.specs.Fields.{FieldMap}
use Rattle.documents.specs.Sizes.{largest, size_of}
use Rattle.doc_updates.specs.Effects.{changed}
use Rattle.doc_updates.specs.declared.change.Change.{Change}
use Rattle.doc_updates.specs.declared.change.Named.{Named}
use Rattle.doc_updates.specs.declared.fault.Reason.{Reason}
use Rattle.doc_updates.specs.declared.fault.Reason.TheVariants as reason
use Rattle.doc_updates.specs.declared.fault.UpdateFault.{UpdateFault}
use Rattle.doc_updates.specs.declared.fault.UpdateFault.TheVariants.{ZeroDivisor, Overflow, TooMany, TooLarge, NoMemory}
use Rattle.doc_updates.specs.contracts.change.Change as change

-- changes by the names of their fields
abbrev pub Changes : Type 0
Changes = fin.FinMap name_cmp Change

abbrev pub changes_code : Coded Changes
changes_code = fin.code (coded_list coded_ℕ) change.the_row.coded

-- the pairs that a list of changes stands for
abbrev pub pairs : List Named → List (List ℕ × Change)
pairs changes = map (λ c. (c.name, c.change)) changes

-- a fault of a field, with its name
abbrev pub named : List ℕ → Reason → UpdateFault
named name reason.ZeroDivisor = ZeroDivisor name
named name reason.Overflow = Overflow name
named name reason.TooMany = TooMany name
named name reason.NoMemory = NoMemory

-- the fields where one of them was changed
abbrev pub with_field : FieldMap → List ℕ → Result (Option FieldValue) Reason → Result FieldMap UpdateFault
with_field fields name (Ok None) = Ok (fin.remove fields name)
with_field fields name (Ok (Some v)) = Ok (fin.insert fields name v)
with_field fields name (Err why) = Err (named name why)

abbrev pub one_changed : List ℕ × Change → FieldMap → Result FieldMap UpdateFault
one_changed e fields = with_field fields e.0 (changed e.1 (fin.get fields e.0))

abbrev pub and_then : (FieldMap → Result FieldMap UpdateFault) → Result FieldMap UpdateFault → Result FieldMap UpdateFault
and_then more (Ok fields) = more fields
and_then more (Err fault) = Err fault

-- one field after the other
abbrev pub all_changed : List (List ℕ × Change) → FieldMap → Result FieldMap UpdateFault
all_changed [] fields = Ok fields
all_changed (e ∷ es) fields = and_then (all_changed es) (one_changed e fields)

abbrev pub sized : FieldMap → Result FieldMap UpdateFault
sized fields = if nat_lt largest (size_of fields) then Err (TooLarge (size_of fields)) else Ok fields

-- in the order of the names, and then the size
abbrev pub updated : Changes → FieldMap → Result FieldMap UpdateFault
updated changes fields = and_then sized (all_changed (fin.entries changes) fields)
