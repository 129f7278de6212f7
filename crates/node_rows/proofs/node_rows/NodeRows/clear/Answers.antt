use Rattle.std.proofs.Common.{◌≡◌, ◌<◌, length, sym, ap, subst, ◌∙◌, arith, Some, None}
use Rattle.std.specs.Option.{option_copied}
use Rattle.field_indexes.specs.Told.{fields_of}
use Rattle.document_rows.specs.Reading.{row_at}
use Rattle.node_rows.specs.Kept.{document_in, documents_in, IsKept, set_at}
use Rattle.node_rows.specs.TypedRows.{TypedRows, with_rows}
use Rattle.node_rows.proofs.PlaceLaws.{set_same, shown_long}
use Rattle.node_rows.proofs.IndexedLaws.{left}
use Rattle.node_rows.proofs.KeptLaws.{kept_cleared}
use Rattle.node_rows.proofs.RoomLaws.{row_is}
use Rattle.node_rows.proofs.node_rows.NodeRows.clear.Goals as goal

pub set_row-requires : goal.set_row-requires
set_row-requires c =
    let less : c.args.local < length (documents_in c.self.inside.rows.items) = subst (λ (t : TypedRows). c.args.local < length t.rows) (sym c.self.view_is) c.requires in
    let long = shown_long document_in c.self.inside.rows.items in
    record { room = λ le. absurd (omega (arith, less, long, le)) }

pub invariant_of-self : goal.invariant_of-self
invariant_of-self c =
    let types = c.self.inside.schema in
    let rows = documents_in c.self.inside.rows.items in
    let n = c.args.local in
    let old = fields_of c.self.inside.indexes.fields in
    let new = fields_of c.leave.new.self.fields in
    let less : n < length rows = subst (λ (t : TypedRows). n < length t.rows) (sym c.self.view_is) c.requires in
    let own : row_at rows n ≡ Some c.in-Some.document.now = row_is c.self.inside.rows.items n c.index.result.now less c.index.ensures ∙ sym c.in-Some.ensures in
    subst (λ rs. IsKept types c.free.new.self rs c.leave.new.self.types new) (sym c.set_row.ensures)
    (kept_cleared types c.self.inside.ids c.free.new.self rows c.self.inside.indexes.types c.leave.new.self.types old new c.in-Some.document.now n c.self.invariant own c.free.ensures
    (left types (row_at rows) c.self.inside.indexes.types c.leave.new.self.types old new c.in-Some.document.now n c.self.invariant.indexed own c.leave.ensures.listed c.leave.ensures.cells c.leave.ensures.kinds))

pub returns-in-Some : goal.returns-in-Some
returns-in-Some c =
    ap (λ rs. record { types = c.self.inside.schema; rows = rs }) c.set_row.ensures ∙ ap (λ (t : TypedRows). with_rows (set_at c.args.local None t.rows) t) c.self.view_is

pub returns-in_default : goal.returns-in_default
returns-in_default c =
    let rows = documents_in c.self.inside.rows.items in
    let n = c.args.local in
    let less : n < length rows = subst (λ (t : TypedRows). n < length t.rows) (sym c.self.view_is) c.requires in
    let none : row_at rows n ≡ None = row_is c.self.inside.rows.items n c.index.result.now less c.index.ensures ∙ sym c.document_of.ensures ∙ ap option_copied c.in_default.is in
    subst (λ (t : TypedRows). t ≡ with_rows (set_at n None t.rows) t) c.self.view_is (ap (λ rs. record { types = c.self.inside.schema; rows = rs }) (sym (set_same n rows less none)))
