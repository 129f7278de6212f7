use Rattle.std.proofs.Common.{◌≡◌, ◌<◌, true, length, sym, ap, subst, ◌∙◌, None}
use Rattle.field_indexes.specs.Told.{fields_of}
use Rattle.document_rows.specs.Rows.{is_of, without}
use Rattle.document_rows.specs.Reading.{row_at}
use Rattle.node_rows.specs.Kept.{documents_in, set_at}
use Rattle.node_rows.specs.TypedRows.{TypedRows, with_rows}
use Rattle.node_rows.proofs.PlaceLaws.{without_is, without_none}
use Rattle.node_rows.proofs.KeptLaws.{told_local, told_missing, id_of}
use Rattle.node_rows.proofs.RoomLaws.{within_id}
use Rattle.node_rows.proofs.node_rows.NodeRows.leave.Goals as goal

pub clear-requires : goal.clear-requires
clear-requires c =
    let rows = documents_in c.self.inside.rows.items in
    let told = told_local c.self.inside.schema c.self.inside.ids rows c.self.inside.indexes.types (fields_of c.self.inside.indexes.fields) c.self.invariant c.args.id.now c.local.result c.local.ensures in
    let there : is_of c.args.id.now (row_at rows c.in-Some.local) ≡ true = id_of c.args.id.now (row_at rows c.in-Some.local) ((told c.in-Some.local).0 c.in-Some.is) in
    subst (λ (t : TypedRows). c.in-Some.local < length t.rows) c.self.view_is (within_id c.args.id.now rows c.in-Some.local there)

pub returns-in-Some : goal.returns-in-Some
returns-in-Some c =
    let rows = documents_in c.self.inside.rows.items in
    let told = told_local c.self.inside.schema c.self.inside.ids rows c.self.inside.indexes.types (fields_of c.self.inside.indexes.fields) c.self.invariant c.args.id.now c.local.result c.local.ensures in
    let there : is_of c.args.id.now (row_at rows c.in-Some.local) ≡ true = id_of c.args.id.now (row_at rows c.in-Some.local) ((told c.in-Some.local).0 c.in-Some.is) in
    c.clear.ensures
    ∙ subst (λ (t : TypedRows). with_rows (set_at c.in-Some.local None t.rows) t ≡ with_rows (without c.args.id.now t.rows) t) c.self.view_is
    (ap (λ rs. record { types = c.self.inside.schema; rows = rs }) (sym (without_is c.args.id.now rows c.in-Some.local c.self.invariant.distinct there)))

pub returns-in_default : goal.returns-in_default
returns-in_default c =
    let rows = documents_in c.self.inside.rows.items in
    let told = told_local c.self.inside.schema c.self.inside.ids rows c.self.inside.indexes.types (fields_of c.self.inside.indexes.fields) c.self.invariant c.args.id.now c.local.result c.local.ensures in
    subst (λ (t : TypedRows). t ≡ with_rows (without c.args.id.now t.rows) t) c.self.view_is
    (ap (λ rs. record { types = c.self.inside.schema; rows = rs }) (sym (without_none c.args.id.now rows (told_missing c.args.id.now rows c.local.result c.in_default.is told))))
