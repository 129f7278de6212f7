use Rattle.std.proofs.Common.{take}
use Rattle.std.specs.List.{flat_map}
use Rattle.documents.specs.Fields.{pairs}
use Rattle.reports.specs.Writing.{Puts, field_tokens}
use Rattle.reports.proofs.fields.put_all.Given as goal

-- the tokens so far
abbrev pub invariant-loop-field : goal.invariant-loop-field
invariant-loop-field l = Puts l.initial.out l.out (flat_map field_tokens (pairs (take l.field-index l.fields)))
