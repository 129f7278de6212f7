use Rattle.std.proofs.Common.{◌≡◌, ◌∙◌, map, Some, Option}
use Rattle.std.specs.FinMap as fin
use Rattle.doc_types.specs.SchemaCodes.{name_cmp, Fields}
use Rattle.doc_types.specs.SchemaMaps.{field_pair}
use Rattle.query_groups.specs.Outputs.{is_free}
use Rattle.query_groups.proofs.Outputs.{fields_of_type}
use Rattle.query_groups.proofs.fields.some_free.Goals as goal

pub returns-in-Some : goal.returns-in-Some
returns-in-Some c =
    let some : ◌≡◌ {A = Option Fields} (Some (fin.from_entries {R = name_cmp} (map field_pair c.in-Some.found.now.fields.items))) (fin.get c.args.schema.now c.args.type_name.now) = c.in-Some.ensures in
    (rw c.deref.ensures.value at c.frees_some.ensures) ∙ fields_of_type c.args.schema.now c.args.type_name.now (is_free c.args.fold c.args.outputs.now) c.in-Some.found.now.fields.items some
