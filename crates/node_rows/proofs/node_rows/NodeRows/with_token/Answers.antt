use Rattle.std.proofs.Common.{sym, ap, ◌∙◌}
use Rattle.std.specs.Option.{option_copied}
use Rattle.field_indexes.specs.Told.{fields_of}
use Rattle.document_rows.specs.Reading.{places_where, has_token}
use Rattle.node_rows.specs.Kept.{documents_in}
use Rattle.node_rows.specs.TypedRows.{TypedRows}
use Rattle.node_rows.proofs.ReadLaws.{words_are, no_words}
use Rattle.node_rows.proofs.node_rows.NodeRows.with_token.Goals as goal

pub returns-in-Some-clause-ids : goal.returns-in-Some-clause-ids
returns-in-Some-clause-ids c =
    let name = c.args.type_name.now in
    let field = c.args.field.now in
    let token = c.args.token.now in
    c.with_word.ensures.ids
    ∙ words_are c.self.inside.schema (documents_in c.self.inside.rows.items) c.self.inside.indexes.types (fields_of c.self.inside.indexes.fields) name field token c.in-Some.index.now c.self.invariant.indexed c.in-Some.ensures
    ∙ ap (λ (t : TypedRows). places_where (has_token name field token) t.rows) c.self.view_is

pub returns-in-None-clause-ids : goal.returns-in-None-clause-ids
returns-in-None-clause-ids c =
    let name = c.args.type_name.now in
    let field = c.args.field.now in
    let token = c.args.token.now in
    no_words c.self.inside.schema (documents_in c.self.inside.rows.items) c.self.inside.indexes.types (fields_of c.self.inside.indexes.fields) name field token c.self.invariant.indexed (sym c.index.ensures ∙ ap option_copied c.in-None.is)
    ∙ ap (λ (t : TypedRows). places_where (has_token name field token) t.rows) c.self.view_is
