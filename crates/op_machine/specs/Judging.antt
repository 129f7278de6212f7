-- What an operation comes to by the newest entry that it saw.
use Rattle.std.specs.Prelude.{ℕ, Bool, true, false, ◌||◌, List, Option, None, Some, is_some, Result, Ok, Err}
use Rattle.stamps.specs.declared.stamp.Stamp.{Stamp}
use Rattle.documents.specs.Fields.{Contents}
use Rattle.doc_updates.specs.declared.fault.UpdateFault.{UpdateFault}
use Rattle.documents.specs.declared.entry.Entry.{Entry}
use Rattle.messages.specs.Meaning.{decide, effect}
use Rattle.messages.specs.declared.operation.Decided.{Decided}
use Rattle.messages.specs.declared.operation.Decided.TheVariants.{GoesAhead, ConditionFails, DoesNothing}
use Rattle.messages.specs.declared.operation.OpKind.{OpKind}
use Rattle.messages.specs.declared.operation.OpKind.TheVariants.{Put, Update, Remove, Get}
use Rattle.messages.specs.declared.operation.Operation.{Operation}
use Rattle.messages.specs.declared.outcome.Outcome.{Outcome}
use Rattle.messages.specs.declared.outcome.Outcome.TheVariants as outcome
use Rattle.op_machine.specs.declared.verdict.Verdict.{Verdict}
use Rattle.op_machine.specs.declared.verdict.Verdict.TheVariants.{Ends, Writes}

-- a get and an update look at their document
abbrev pub looks_by : OpKind → Bool
looks_by (Put d) = false
looks_by (Update u) = true
looks_by Remove = false
looks_by Get = true

-- and so does whatever has a condition
abbrev pub looks : Operation → Bool
looks o = is_some o.condition || looks_by o.kind

-- the document and the stamp of an entry that was seen; a remove has no document
abbrev pub document_in : Option Entry → Option Contents
document_in None = None
document_in (Some e) = e.body

abbrev pub stamp_in : Option Entry → Option Stamp
stamp_in None = None
stamp_in (Some e) = Some e.stamp

-- what a get answers by the entry that it saw: found with the entry's stamp exactly where there is a document
abbrev pub shown_body : Stamp → Option Contents → Outcome
shown_body s None = outcome.Missing (Some s)
shown_body s (Some d) = outcome.Found s

abbrev pub shown : Option Entry → Outcome
shown None = outcome.Missing None
shown (Some e) = shown_body e.stamp e.body

-- the effect is to be stored; a document that can't have the update ends the operation
abbrev pub written_by : List ℕ → Stamp → Result (Option Contents) UpdateFault → Verdict
written_by id s (Ok body) = Writes (record { stamp = s; id = id; body = body })
written_by id s (Err fault) = Ends (outcome.BadUpdate fault)

abbrev pub written : Operation → Stamp → Option Entry → Verdict
written o s seen = written_by o.id s (effect o.id o.kind (document_in seen))

-- an operation that goes ahead: one without a stamp, a get, shows what it saw
abbrev pub goes_on : Operation → Option Stamp → Option Entry → Verdict
goes_on o None seen = Ends (shown seen)
goes_on o (Some s) seen = written o s seen

abbrev pub judged_by : Decided → Operation → Option Stamp → Option Entry → Verdict
judged_by GoesAhead o s seen = goes_on o s seen
judged_by ConditionFails o s seen = Ends (outcome.ConditionFailed (stamp_in seen))
judged_by DoesNothing o s seen = Ends (outcome.Nothing (stamp_in seen))

-- a condition that fails comes first, then an update that does nothing and a get, then an update that can't be
abbrev pub judged : Operation → Option Stamp → Option Entry → Verdict
judged o s seen = judged_by (decide o (document_in seen)) o s seen
