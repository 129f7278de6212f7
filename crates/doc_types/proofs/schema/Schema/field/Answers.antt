use Rattle.std.proofs.Common.{◌≡◌, ◌∙◌, sym, map, Some, None, Option}
use Rattle.std.specs.FinMap as fin
use Rattle.doc_types.specs.SchemaCodes.{name_cmp, Fields}
use Rattle.doc_types.specs.SchemaMaps.{type_pair, field_pair}
use Rattle.doc_types.proofs.Finding.{field_of, no_field, got}
use Rattle.doc_types.proofs.schema.Schema.field.Goals as goal

pub returns-in-Some : goal.returns-in-Some
returns-in-Some c =
    let fields : Fields = fin.from_entries (map field_pair c.in-Some.found.now.fields.items) in
    let some : ◌≡◌ {A = Option Fields} (Some fields) (fin.find name_cmp c.args.type_name.now (map type_pair c.self.inside.types.items)) = rw c.deref.ensures.value at c.in-Some.ensures in
    let kind : c.kind_of.result ≡ fin.find name_cmp c.args.field.now (map field_pair c.in-Some.found.now.fields.items) = rw c.deref-in-Some.ensures.value at c.kind_of.ensures in
    rw (← c.self.view_is) (kind ∙ sym (got (map field_pair c.in-Some.found.now.fields.items) c.args.field.now) ∙ field_of (map type_pair c.self.inside.types.items) c.args.type_name.now c.args.field.now fields some)

pub returns-in-None : goal.returns-in-None
returns-in-None c =
    let none : ◌≡◌ {A = Option Fields} None (fin.find name_cmp c.args.type_name.now (map type_pair c.self.inside.types.items)) = rw c.deref.ensures.value at c.in-None.ensures in
    rw (← c.self.view_is) (no_field (map type_pair c.self.inside.types.items) c.args.type_name.now c.args.field.now none)
