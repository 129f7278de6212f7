use Rattle.std.proofs.Common.{◌≡◌, ◌∙◌, sym, ap, map, Some, None, Option}
use Rattle.std.specs.FinMap as fin
use Rattle.doc_types.specs.Known.{some_fields}
use Rattle.doc_types.specs.SchemaCodes.{name_cmp, Fields}
use Rattle.doc_types.specs.SchemaMaps.{type_pair, field_pair}
use Rattle.doc_types.proofs.Finding.{got}
use Rattle.doc_types.proofs.schema.Schema.has_fields.Goals as goal

pub returns-in-Some : goal.returns-in-Some
returns-in-Some c =
    let fields : Fields = fin.from_entries (map field_pair c.in-Some.found.now.fields.items) in
    let some : ◌≡◌ {A = Option Fields} (Some fields) (fin.find name_cmp c.args.type_name.now (map type_pair c.self.inside.types.items)) = rw c.deref.ensures.value at c.in-Some.ensures in
    let known : ◌≡◌ {A = Option Fields} (Some fields) (fin.get (fin.from_entries (map type_pair c.self.inside.types.items)) c.args.type_name.now) = some ∙ sym (got (map type_pair c.self.inside.types.items) c.args.type_name.now) in
    let result : c.some_field.result ≡ some_fields (Some fields) = rw c.deref-in-Some.ensures.value at c.some_field.ensures in
    rw (← c.self.view_is) (result ∙ ap some_fields known)

pub returns-in-None : goal.returns-in-None
returns-in-None c =
    let none : ◌≡◌ {A = Option Fields} None (fin.find name_cmp c.args.type_name.now (map type_pair c.self.inside.types.items)) = rw c.deref.ensures.value at c.in-None.ensures in
    let known : ◌≡◌ {A = Option Fields} None (fin.get (fin.from_entries (map type_pair c.self.inside.types.items)) c.args.type_name.now) = none ∙ sym (got (map type_pair c.self.inside.types.items) c.args.type_name.now) in
    rw (← c.self.view_is) (ap some_fields known)
