use Rattle.std.proofs.Common.{◌≡◌, ◌≢◌, ◌<◌, length, refl, sym, ap, subst, ◌∙◌, arith, rules, Some, None, option_map}
use Rattle.documents.specs.Fields.{Contents}
use Rattle.proof_basics.proofs.Options.{some_same}
use Rattle.field_indexes.specs.Told.{fields_of}
use Rattle.document_rows.specs.Reading.{row_at}
use Rattle.node_rows.specs.Kept.{document_in, documents_in, with_at, IsProper, IsIndexed, IsKept, set_at, by_body}
use Rattle.node_rows.specs.TypedRows.{TypedRows, with_rows}
use Rattle.node_rows.proofs.PlaceLaws.{past, shown_long}
use Rattle.node_rows.proofs.IndexedLaws.{entered, failed, left, moved, unlisted, do_fit, at_own, at_other}
use Rattle.node_rows.proofs.KeptLaws.{kept_replaced, kept_failed, board_replaced, id_of}
use Rattle.node_rows.proofs.RoomLaws.{own_of, row_is, within_id}
use Rattle.node_rows.proofs.node_rows.NodeRows.replace.Goals as goal

pub enter-requires-clause-new : goal.enter-requires-clause-new
enter-requires-clause-new c =
    let rows = documents_in c.self.inside.rows.items in
    let long = shown_long document_in c.self.inside.rows.items in
    let n : c.len-last.result ≡ length c.self.inside.rows.items = search rules in
    unlisted c.self.inside.schema (row_at rows) c.self.inside.indexes.types (fields_of c.self.inside.indexes.fields) c.len-last.result c.self.invariant.indexed (past rows c.len-last.result (omega (arith, long, n))) _

pub enter-requires-clause-fit : goal.enter-requires-clause-fit
enter-requires-clause-fit c =
    let d = c.in-Some.document.now in
    let rows = documents_in c.self.inside.rows.items in
    let own = own_of (λ d. IsProper c.args.self.now.types d × (option_map (λ (x : Contents). x.id) (row_at c.args.self.now.rows c.args.local) ≡ Some d.id)) c.args.entry.body d c.in-Some.ensures c.requires.own in
    let proper : IsProper c.self.inside.schema d = subst (λ (t : TypedRows). IsProper t.types d) (sym c.self.view_is) own.0 in
    do_fit c.self.inside.schema (row_at rows) c.self.inside.indexes.types (fields_of c.self.inside.indexes.fields) d c.self.invariant.indexed proper.whole

pub invariant_of-self : goal.invariant_of-self
invariant_of-self c =
    let types = c.self.inside.schema in
    let rows = documents_in c.self.inside.rows.items in
    let lists = c.self.inside.indexes.types in
    let fields = fields_of c.self.inside.indexes.fields in
    let lists' = c.enter.new.self.types in
    let fields' = fields_of c.enter.new.self.fields in
    let d = c.in-Some.document.now in
    let own = own_of (λ d. IsProper c.args.self.now.types d × (option_map (λ (x : Contents). x.id) (row_at c.args.self.now.rows c.args.local) ≡ Some d.id)) c.args.entry.body d c.in-Some.ensures c.requires.own in
    let proper : IsProper types d = subst (λ (t : TypedRows). IsProper t.types d) (sym c.self.view_is) own.0 in
    kept_failed types c.self.inside.ids c.self.inside.ids rows lists lists' fields fields' c.self.invariant refl
    (failed types (row_at rows) lists lists' fields fields' d c.self.invariant.indexed proper.whole c.in_err-enter.ensures.listed_before c.in_err-enter.ensures.cells_before c.in_err-enter.ensures.kinds)

pub invariant_of-self-2 : goal.invariant_of-self-2
invariant_of-self-2 c =
    let types = c.self.inside.schema in
    let store = c.self.inside.ids in
    let rows = documents_in c.self.inside.rows.items in
    let lists = c.self.inside.indexes.types in
    let fields = fields_of c.self.inside.indexes.fields in
    let fields1 = fields_of c.enter.new.self.fields in
    let fields2 = fields_of c.leave.new.self.fields in
    let fields3 = fields_of c.move_down.new.self.fields in
    let n = c.args.local in
    let last = c.len-last.result in
    let d = c.in-Some.document.now in
    let b = c.in-Some-document_of.before.now in
    let own = own_of (λ d. IsProper c.args.self.now.types d × (option_map (λ (x : Contents). x.id) (row_at c.args.self.now.rows c.args.local) ≡ Some d.id)) c.args.entry.body d c.in-Some.ensures c.requires.own in
    let proper : IsProper types d = subst (λ (t : TypedRows). IsProper t.types d) (sym c.self.view_is) own.0 in
    let its : option_map (λ (x : Contents). x.id) (row_at rows n) ≡ Some d.id = subst (λ (t : TypedRows). option_map (λ (x : Contents). x.id) (row_at t.rows n) ≡ Some d.id) (sym c.self.view_is) own.1 in
    let less : n < length rows = within_id d.id rows n (id_of d.id (row_at rows n) its) in
    let before : row_at rows n ≡ Some b = row_is c.self.inside.rows.items n c.index.result.now less c.index.ensures ∙ sym c.in-Some-document_of.ensures in
    let same : b.id ≡ d.id = some_same b.id d.id (sym (ap (option_map (λ (x : Contents). x.id)) before) ∙ its) in
    let long = shown_long document_in c.self.inside.rows.items in
    let e : last ≡ length c.self.inside.rows.items = search rules in
    let free : row_at rows last ≡ None = past rows last (omega (arith, long, e)) in
    let apart : n ≢ last = (λ s. omega (arith, less, long, e, s)) in
    let g1 = with_at last (Some d) (row_at rows) in
    let g2 = with_at n None g1 in
    let i1 : IsIndexed types g1 c.enter.new.self.types fields1 = entered types (row_at rows) lists c.enter.new.self.types fields fields1 d last c.self.invariant.indexed proper.whole free c.in_ok-enter.ensures.listed c.in_ok-enter.ensures.cells c.in_ok-enter.ensures.kinds in
    let i2 : IsIndexed types g2 c.leave.new.self.types fields2 = left types g1 c.enter.new.self.types c.leave.new.self.types fields1 fields2 b n i1 (at_other last n (Some d) (row_at rows) apart ∙ before) c.leave.ensures.listed c.leave.ensures.cells c.leave.ensures.kinds in
    let i3 : IsIndexed types (with_at n (Some d) (with_at last None g2)) c.move_down.new.self.types fields3 =
    moved types g2 c.leave.new.self.types c.move_down.new.self.types fields2 fields3 d last n i2 (at_other n last None g1 (λ s. apart (sym s)) ∙ at_own last (Some d) (row_at rows)) (at_own n None g1) apart c.move_down.ensures.listed c.move_down.ensures.cells c.move_down.ensures.kinds in
    subst (λ rs. IsKept types store rs c.move_down.new.self.types fields3) (sym (c.set_row.ensures ∙ ap (λ o. set_at n o rows) (sym c.in-Some.ensures)))
    (kept_replaced types store rows lists c.move_down.new.self.types fields fields3 b d n c.self.invariant proper before same (board_replaced types (row_at rows) c.move_down.new.self.types fields3 d n last free i3))

pub returns-clause-ok : goal.returns-clause-ok
returns-clause-ok c =
    let rows = documents_in c.self.inside.rows.items in
    let n = c.args.local in
    ap (λ rs. record { types = c.self.inside.schema; rows = rs })
    (c.set_row.ensures ∙ ap (λ o. set_at n o rows) (sym c.in-Some.ensures) ∙ sym (ap (λ o. by_body (λ d rows. set_at n (Some d) rows) o rows) (sym c.in-Some.ensures)))
    ∙ ap (λ (t : TypedRows). with_rows (by_body (λ d rows. set_at n (Some d) rows) c.args.entry.body t.rows) t) c.self.view_is

pub set_row-requires : goal.set_row-requires
set_row-requires c =
    let rows = documents_in c.self.inside.rows.items in
    let n = c.args.local in
    let d = c.in-Some.document.now in
    let own = own_of (λ d. IsProper c.args.self.now.types d × (option_map (λ (x : Contents). x.id) (row_at c.args.self.now.rows c.args.local) ≡ Some d.id)) c.args.entry.body d c.in-Some.ensures c.requires.own in
    let its : option_map (λ (x : Contents). x.id) (row_at rows n) ≡ Some d.id = subst (λ (t : TypedRows). option_map (λ (x : Contents). x.id) (row_at t.rows n) ≡ Some d.id) (sym c.self.view_is) own.1 in
    let less : n < length rows = within_id d.id rows n (id_of d.id (row_at rows n) its) in
    let long = shown_long document_in c.self.inside.rows.items in
    record { room = λ le. absurd (omega (arith, less, long, le)) }
