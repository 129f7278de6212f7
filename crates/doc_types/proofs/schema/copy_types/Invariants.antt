use Rattle.std.proofs.Common.{◌≡◌, map, take}
use Rattle.doc_types.specs.SchemaMaps.{type_pair}
use Rattle.doc_types.proofs.schema.copy_types.Given as goal

-- the types so far are copied
abbrev pub invariant-loop-one : goal.invariant-loop-one
invariant-loop-one l = map type_pair l.copies.items ≡ map type_pair (take l.one-index l.types)
