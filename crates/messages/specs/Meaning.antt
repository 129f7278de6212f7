-- What an operation means, by the document that it sees; where a remove was seen there is none.
use Rattle.std.specs.Prelude.{ℕ, Bool, false, List, Option, Some, None, Result, Ok, Err, if◌then◌else◌}
use Rattle.std.specs.FinMap as fin
use Rattle.documents.specs.Fields.{Contents, FieldMap}
use Rattle.doc_updates.specs.Updates.{Changes, updated}
use Rattle.doc_updates.specs.declared.fault.UpdateFault.{UpdateFault}
use Rattle.conditions.specs.Formulas.{Formula}
use Rattle.doc_selection.specs.declared.terms.Term.{Term}
use Rattle.doc_selection.specs.Truth.{selects}
use Rattle.messages.specs.declared.operation.Decided.{Decided}
use Rattle.messages.specs.declared.operation.Decided.TheVariants.{GoesAhead, ConditionFails, DoesNothing}
use Rattle.messages.specs.declared.operation.Operation.{Operation}
use Rattle.messages.specs.declared.operation.OpKind.{OpKind}
use Rattle.messages.specs.declared.operation.OpKind.TheVariants.{Put, Update, Remove, Get}

-- only a put and an update make a document where there is none, and only with `create`
abbrev pub makes_one : OpKind → Bool → Bool
makes_one (Put d) create = create
makes_one (Update u) create = create
makes_one Remove create = false
makes_one Get create = false

-- where there is a document, the condition is true of it; where there is none, the operation makes one
abbrev pub is_met : Formula Term → OpKind → Bool → Option Contents → Bool
is_met condition kind create None = makes_one kind create
is_met condition kind create (Some d) = selects d condition

-- without a condition only an update that sees no document, and has no `create`, does nothing
abbrev pub decide_plain : OpKind → Bool → Option Contents → Decided
decide_plain (Update u) create None = if create then GoesAhead else DoesNothing
decide_plain (Update u) create (Some d) = GoesAhead
decide_plain (Put d) create seen = GoesAhead
decide_plain Remove create seen = GoesAhead
decide_plain Get create seen = GoesAhead

-- with one, what doesn't meet it fails
abbrev pub decide_by : Option (Formula Term) → OpKind → Bool → Option Contents → Decided
decide_by None kind create seen = decide_plain kind create seen
decide_by (Some condition) kind create seen = if is_met condition kind create seen then GoesAhead else ConditionFails

-- whether an operation goes ahead, and if not, why
abbrev pub decide : Operation → Option Contents → Decided
decide operation seen = decide_by operation.condition operation.kind operation.create seen

-- the document seen, or the one without fields
abbrev pub or_empty : List ℕ → Option Contents → Contents
or_empty id None = record { id = id; fields = fin.empty }
or_empty id (Some d) = d

abbrev pub with_fields : Contents → Result FieldMap UpdateFault → Result (Option Contents) UpdateFault
with_fields d (Ok fields) = Ok (Some (record { id = d.id; fields = fields }))
with_fields d (Err fault) = Err fault

abbrev pub updated_of : Changes → Contents → Result (Option Contents) UpdateFault
updated_of u d = with_fields d (updated u d.fields)

-- the document that an operation on an id leaves, or none; a get leaves what it sees
abbrev pub effect : List ℕ → OpKind → Option Contents → Result (Option Contents) UpdateFault
effect id (Put d) seen = Ok (Some d)
effect id (Update u) seen = updated_of u (or_empty id seen)
effect id Remove seen = Ok None
effect id Get seen = Ok seen
