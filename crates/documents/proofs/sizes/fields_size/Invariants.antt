use Rattle.std.proofs.Common.{◌≡◌, map, sum, take}
use Rattle.documents.specs.Fields.{pairs}
use Rattle.documents.specs.Sizes.{field_size, capped}
use Rattle.documents.proofs.sizes.fields_size.Given as goal

-- the size of the fields so far
abbrev pub invariant-loop-field : goal.invariant-loop-field
invariant-loop-field l = l.size ≡ capped (sum (map field_size (pairs (take l.field-index l.fields))))
