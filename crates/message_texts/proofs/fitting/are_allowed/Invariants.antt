use Rattle.std.proofs.Common.{◌≡◌, drop}
use Rattle.std.specs.List.{list_all}
use Rattle.documents.specs.Fields.{pairs}
use Rattle.documents.specs.Kinds.{kinds_of}
use Rattle.message_texts.specs.Entries.{is_allowed}
use Rattle.message_texts.proofs.fitting.are_allowed.Given as goal

-- the fields so far are allowed
abbrev pub invariant-loop-field : goal.invariant-loop-field
invariant-loop-field l = list_all (is_allowed (kinds_of l.schema l.type_name)) (pairs (drop l.field-index l.fields)) ≡ list_all (is_allowed (kinds_of l.schema l.type_name)) (pairs l.fields)
