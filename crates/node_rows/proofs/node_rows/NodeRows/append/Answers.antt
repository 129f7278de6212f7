use Rattle.std.proofs.Common.{◌≡◌, ◌<◌, false, length, sym, ap, ap₂, subst, ◌∙◌, arith, rules, None, option_map}
use Rattle.std.specs.FinMap as fin
use Rattle.global_ids.specs.Keys.{key_of}
use Rattle.meta_store.specs.Store.{Store, IsNew}
use Rattle.field_indexes.specs.Told.{fields_of}
use Rattle.document_rows.specs.Rows.{has_row}
use Rattle.document_rows.specs.Reading.{row_at}
use Rattle.node_rows.specs.Kept.{document_in, documents_in, named_of, IsProper, IsKept, set_at}
use Rattle.node_rows.specs.TypedRows.{TypedRows}
use Rattle.node_rows.proofs.PlaceLaws.{past, shown_long}
use Rattle.node_rows.proofs.IndexedLaws.{entered, failed, unlisted, do_fit}
use Rattle.node_rows.proofs.KeptLaws.{kept_new, kept_failed, is_new}
use Rattle.node_rows.proofs.RoomLaws.{own_of, put_back}
use Rattle.node_rows.proofs.node_rows.NodeRows.append.Goals as goal

pub place-requires-clause-new : goal.place-requires-clause-new
place-requires-clause-new c =
    let types = c.self.inside.schema in
    let store = c.self.inside.ids in
    let rows = documents_in c.self.inside.rows.items in
    let d = c.in-Some.document.now in
    let own = own_of (λ d. IsProper c.args.self.now.types d × (c.args.key ≡ key_of d.id) × (has_row d.id c.args.self.now.rows ≡ false)) c.args.entry.body d c.in-Some.ensures c.requires.own in
    let lacks : has_row d.id rows ≡ false = subst (λ (t : TypedRows). has_row d.id t.rows ≡ false) (sym c.self.view_is) own.2 in
    subst (IsNew store) (sym c.id.ensures) (is_new types store rows c.self.inside.indexes.types (fields_of c.self.inside.indexes.fields) c.self.invariant d.id lacks)

pub enter-requires-clause-new : goal.enter-requires-clause-new
enter-requires-clause-new c =
    let rows = documents_in c.self.inside.rows.items in
    let long = shown_long document_in c.self.inside.rows.items in
    let n : c.len-local.result ≡ length c.self.inside.rows.items = search rules in
    unlisted c.self.inside.schema (row_at rows) c.self.inside.indexes.types (fields_of c.self.inside.indexes.fields) c.len-local.result c.self.invariant.indexed (past rows c.len-local.result (omega (arith, long, n))) _

pub enter-requires-clause-fit : goal.enter-requires-clause-fit
enter-requires-clause-fit c =
    let d = c.in-Some.document.now in
    let rows = documents_in c.self.inside.rows.items in
    let own = own_of (λ d. IsProper c.args.self.now.types d × (c.args.key ≡ key_of d.id) × (has_row d.id c.args.self.now.rows ≡ false)) c.args.entry.body d c.in-Some.ensures c.requires.own in
    let proper : IsProper c.self.inside.schema d = subst (λ (t : TypedRows). IsProper t.types d) (sym c.self.view_is) own.0 in
    do_fit c.self.inside.schema (row_at rows) c.self.inside.indexes.types (fields_of c.self.inside.indexes.fields) d c.self.invariant.indexed proper.whole

pub invariant_of-self-in-Err : goal.invariant_of-self-in-Err
invariant_of-self-in-Err c =
    let types = c.self.inside.schema in
    let store = c.self.inside.ids in
    let rows = documents_in c.self.inside.rows.items in
    let lists = c.self.inside.indexes.types in
    let fields = fields_of c.self.inside.indexes.fields in
    let lists' = c.enter.new.self.types in
    let fields' = fields_of c.enter.new.self.fields in
    let n = c.len-local.result in
    let d = c.in-Some.document.now in
    let own = own_of (λ d. IsProper c.args.self.now.types d × (c.args.key ≡ key_of d.id) × (has_row d.id c.args.self.now.rows ≡ false)) c.args.entry.body d c.in-Some.ensures c.requires.own in
    let proper : IsProper types d = subst (λ (t : TypedRows). IsProper t.types d) (sym c.self.view_is) own.0 in
    let long = shown_long document_in c.self.inside.rows.items in
    let e : n ≡ length c.self.inside.rows.items = search rules in
    let free : fin.get store n ≡ None = c.self.invariant.named n ∙ ap (option_map named_of) (past rows n (omega (arith, long, e))) in
    subst (λ xs. IsKept types c.free.new.self (documents_in xs) lists' fields') (sym c.reserve.ensures.items)
    (kept_failed types store c.free.new.self rows lists lists' fields fields' c.self.invariant
    (c.free.ensures ∙ ap (λ (s : Store). fin.remove s n) c.in_ok-place.ensures.ok ∙ put_back store n _ free)
    (failed types (row_at rows) lists lists' fields fields' d c.self.invariant.indexed proper.whole c.in-Err.ensures.listed_before c.in-Err.ensures.cells_before c.in-Err.ensures.kinds))

pub invariant_of-self-2 : goal.invariant_of-self-2
invariant_of-self-2 c =
    let types = c.self.inside.schema in
    let store = c.self.inside.ids in
    let rows = documents_in c.self.inside.rows.items in
    let lists = c.self.inside.indexes.types in
    let fields = fields_of c.self.inside.indexes.fields in
    let lists' = c.enter.new.self.types in
    let fields' = fields_of c.enter.new.self.fields in
    let n = c.len-local.result in
    let d = c.in-Some.document.now in
    let own = own_of (λ d. IsProper c.args.self.now.types d × (c.args.key ≡ key_of d.id) × (has_row d.id c.args.self.now.rows ≡ false)) c.args.entry.body d c.in-Some.ensures c.requires.own in
    let proper : IsProper types d = subst (λ (t : TypedRows). IsProper t.types d) (sym c.self.view_is) own.0 in
    let lacks : has_row d.id rows ≡ false = subst (λ (t : TypedRows). has_row d.id t.rows ≡ false) (sym c.self.view_is) own.2 in
    let few : length rows < 4294967295 = subst (λ (t : TypedRows). length t.rows < 4294967295) (sym c.self.view_is) c.requires.few in
    let long = shown_long document_in c.self.inside.rows.items in
    let e : n ≡ length c.self.inside.rows.items = search rules in
    let none = past rows n (omega (arith, long, e)) in
    subst (λ rs. IsKept types c.place.new.self rs lists' fields') (sym (c.set_row.ensures ∙ ap (λ xs. set_at n c.args.entry.body (documents_in xs)) c.reserve.ensures.items ∙ ap (λ o. set_at n o rows) (sym c.in-Some.ensures)))
    (kept_new types store c.place.new.self rows lists lists' fields fields' d n c.self.invariant proper lacks none (omega (arith, long, e)) (omega (arith, long, e, few))
    (c.in_ok-place.ensures.ok ∙ ap₂ (λ i k. fin.insert store n (record { id = i; key = k })) c.id.ensures own.1)
    (entered types (row_at rows) lists lists' fields fields' d n c.self.invariant.indexed proper.whole none c.in_default-enter.ensures.listed c.in_default-enter.ensures.cells c.in_default-enter.ensures.kinds))
