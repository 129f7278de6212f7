use Rattle.std.proofs.Common.{◌≡◌, ◌<◌, false, sym, ap, ap₂, subst, ◌∙◌, arith}
use Rattle.std.specs.FinMap as fin
use Rattle.global_ids.specs.Keys.{key_of}
use Rattle.meta_store.specs.Store.{Store, IsNew, IsLeastFree}
use Rattle.field_indexes.specs.Told.{fields_of}
use Rattle.document_rows.specs.Rows.{has_row, free_place}
use Rattle.document_rows.specs.Reading.{row_at}
use Rattle.node_rows.specs.Kept.{documents_in, IsProper, IsKept, set_at, put_new, by_body}
use Rattle.node_rows.specs.TypedRows.{TypedRows, with_rows}
use Rattle.node_rows.proofs.PlaceLaws.{free_within}
use Rattle.node_rows.proofs.IndexedLaws.{entered, failed, unlisted, no_cell, do_fit}
use Rattle.node_rows.proofs.KeptLaws.{kept_new, kept_failed, is_new}
use Rattle.node_rows.proofs.RoomLaws.{own_of, free_row, free_is, has_room, is_full, put_full, put_at, put_back}
use Rattle.node_rows.proofs.node_rows.NodeRows.enter.Goals as goal

pub returns-then-len-ge-MOST-clause-ok : goal.returns-then-len-ge-MOST-clause-ok
returns-then-len-ge-MOST-clause-ok c =
    let types = c.self.inside.schema in
    let rows = documents_in c.self.inside.rows.items in
    let d = c.in-Some.document.now in
    let full = is_full types c.self.inside.ids rows c.self.inside.indexes.types (fields_of c.self.inside.indexes.fields) c.self.invariant (let n = c.len.ensures in let t = c.if-len-ge-MOST.true in omega (arith, n, t)) in
    subst (λ (t : TypedRows). t ≡ with_rows (by_body put_new c.args.entry.body t.rows) t) c.self.view_is
    (ap (λ rs. record { types = types; rows = rs }) (sym (ap (λ o. by_body put_new o rows) (sym c.in-Some.ensures) ∙ put_full d rows full)))

pub enter-requires-clause-new : goal.enter-requires-clause-new
enter-requires-clause-new c =
    let types = c.self.inside.schema in
    let rows = documents_in c.self.inside.rows.items in
    let lists = c.self.inside.indexes.types in
    let fields = fields_of c.self.inside.indexes.fields in
    let d = c.in-Some.document.now in
    let own = own_of (λ d. IsProper c.args.self.now.types d × (c.args.key ≡ key_of d.id) × (has_row d.id c.args.self.now.rows ≡ false)) c.args.entry.body d c.in-Some.ensures c.requires.own in
    let lacks : has_row d.id rows ≡ false = subst (λ (t : TypedRows). has_row d.id t.rows ≡ false) (sym c.self.view_is) own.2 in
    let new : IsNew c.self.inside.ids c.id.result.now = subst (IsNew c.self.inside.ids) (sym c.id.ensures) (is_new types c.self.inside.ids rows lists fields c.self.invariant d.id lacks) in
    let none = free_row types c.self.inside.ids rows lists fields c.self.invariant c.in_ok-local.local (c.in_ok-local.ensures.least new) in
    unlisted types (row_at rows) lists fields c.in_ok-local.local c.self.invariant.indexed none _

pub enter-requires-clause-fit : goal.enter-requires-clause-fit
enter-requires-clause-fit c =
    let d = c.in-Some.document.now in
    let rows = documents_in c.self.inside.rows.items in
    let own = own_of (λ d. IsProper c.args.self.now.types d × (c.args.key ≡ key_of d.id) × (has_row d.id c.args.self.now.rows ≡ false)) c.args.entry.body d c.in-Some.ensures c.requires.own in
    let proper : IsProper c.self.inside.schema d = subst (λ (t : TypedRows). IsProper t.types d) (sym c.self.view_is) own.0 in
    do_fit c.self.inside.schema (row_at rows) c.self.inside.indexes.types (fields_of c.self.inside.indexes.fields) d c.self.invariant.indexed proper.whole

pub enter-requires-clause-free : goal.enter-requires-clause-free
enter-requires-clause-free c =
    let types = c.self.inside.schema in
    let rows = documents_in c.self.inside.rows.items in
    let lists = c.self.inside.indexes.types in
    let fields = fields_of c.self.inside.indexes.fields in
    let d = c.in-Some.document.now in
    let own = own_of (λ d. IsProper c.args.self.now.types d × (c.args.key ≡ key_of d.id) × (has_row d.id c.args.self.now.rows ≡ false)) c.args.entry.body d c.in-Some.ensures c.requires.own in
    let lacks : has_row d.id rows ≡ false = subst (λ (t : TypedRows). has_row d.id t.rows ≡ false) (sym c.self.view_is) own.2 in
    let new : IsNew c.self.inside.ids c.id.result.now = subst (IsNew c.self.inside.ids) (sym c.id.ensures) (is_new types c.self.inside.ids rows lists fields c.self.invariant d.id lacks) in
    let none = free_row types c.self.inside.ids rows lists fields c.self.invariant c.in_ok-local.local (c.in_ok-local.ensures.least new) in
    no_cell types (row_at rows) lists fields c.in_ok-local.local c.self.invariant.indexed none

pub invariant_of-self-in-Err : goal.invariant_of-self-in-Err
invariant_of-self-in-Err c =
    let types = c.self.inside.schema in
    let store = c.self.inside.ids in
    let rows = documents_in c.self.inside.rows.items in
    let lists = c.self.inside.indexes.types in
    let fields = fields_of c.self.inside.indexes.fields in
    let lists' = c.enter.new.self.types in
    let fields' = fields_of c.enter.new.self.fields in
    let n = c.in_ok-local.local in
    let d = c.in-Some.document.now in
    let own = own_of (λ d. IsProper c.args.self.now.types d × (c.args.key ≡ key_of d.id) × (has_row d.id c.args.self.now.rows ≡ false)) c.args.entry.body d c.in-Some.ensures c.requires.own in
    let proper : IsProper types d = subst (λ (t : TypedRows). IsProper t.types d) (sym c.self.view_is) own.0 in
    let lacks : has_row d.id rows ≡ false = subst (λ (t : TypedRows). has_row d.id t.rows ≡ false) (sym c.self.view_is) own.2 in
    let new : IsNew store c.id.result.now = subst (IsNew store) (sym c.id.ensures) (is_new types store rows lists fields c.self.invariant d.id lacks) in
    let least : IsLeastFree store n = c.in_ok-local.ensures.least new in
    subst (λ xs. IsKept types c.free.new.self (documents_in xs) lists' fields') (sym c.reserve.ensures.items)
    (kept_failed types store c.free.new.self rows lists lists' fields fields' c.self.invariant
    (c.free.ensures ∙ ap (λ (s : Store). fin.remove s n) (c.in_ok-local.ensures.ok new) ∙ put_back store n _ least.0)
    (failed types (row_at rows) lists lists' fields fields' d c.self.invariant.indexed proper.whole c.in-Err.ensures.listed_before c.in-Err.ensures.cells_before c.in-Err.ensures.kinds))

pub invariant_of-self-2 : goal.invariant_of-self-2
invariant_of-self-2 c =
    let types = c.self.inside.schema in
    let store = c.self.inside.ids in
    let rows = documents_in c.self.inside.rows.items in
    let lists = c.self.inside.indexes.types in
    let fields = fields_of c.self.inside.indexes.fields in
    let lists' = c.enter.new.self.types in
    let fields' = fields_of c.enter.new.self.fields in
    let n = c.in_ok-local.local in
    let d = c.in-Some.document.now in
    let own = own_of (λ d. IsProper c.args.self.now.types d × (c.args.key ≡ key_of d.id) × (has_row d.id c.args.self.now.rows ≡ false)) c.args.entry.body d c.in-Some.ensures c.requires.own in
    let proper : IsProper types d = subst (λ (t : TypedRows). IsProper t.types d) (sym c.self.view_is) own.0 in
    let lacks : has_row d.id rows ≡ false = subst (λ (t : TypedRows). has_row d.id t.rows ≡ false) (sym c.self.view_is) own.2 in
    let new : IsNew store c.id.result.now = subst (IsNew store) (sym c.id.ensures) (is_new types store rows lists fields c.self.invariant d.id lacks) in
    let least : IsLeastFree store n = c.in_ok-local.ensures.least new in
    let none = free_row types store rows lists fields c.self.invariant n least in
    let place : n ≡ free_place rows = free_is types store rows lists fields c.self.invariant n least in
    let room : free_place rows < 4294967295 = has_room types store rows lists fields c.self.invariant (let e = c.len.ensures in let t = c.if-len-ge-MOST.false in omega (arith, e, t)) in
    let le = free_within rows in
    subst (λ rs. IsKept types c.assign.new.self rs lists' fields') (sym (c.set_row.ensures ∙ ap (λ xs. set_at n c.args.entry.body (documents_in xs)) c.reserve.ensures.items ∙ ap (λ o. set_at n o rows) (sym c.in-Some.ensures)))
    (kept_new types store c.assign.new.self rows lists lists' fields fields' d n c.self.invariant proper lacks none (omega (arith, place, le)) (omega (arith, place, room))
    (c.in_ok-local.ensures.ok new ∙ ap₂ (λ i k. fin.insert store n (record { id = i; key = k })) c.id.ensures own.1)
    (entered types (row_at rows) lists lists' fields fields' d n c.self.invariant.indexed proper.whole none c.in_default-enter.ensures.listed c.in_default-enter.ensures.cells c.in_default-enter.ensures.kinds))

pub returns-clause-ok : goal.returns-clause-ok
returns-clause-ok c =
    let types = c.self.inside.schema in
    let store = c.self.inside.ids in
    let rows = documents_in c.self.inside.rows.items in
    let lists = c.self.inside.indexes.types in
    let fields = fields_of c.self.inside.indexes.fields in
    let n = c.in_ok-local.local in
    let d = c.in-Some.document.now in
    let own = own_of (λ d. IsProper c.args.self.now.types d × (c.args.key ≡ key_of d.id) × (has_row d.id c.args.self.now.rows ≡ false)) c.args.entry.body d c.in-Some.ensures c.requires.own in
    let lacks : has_row d.id rows ≡ false = subst (λ (t : TypedRows). has_row d.id t.rows ≡ false) (sym c.self.view_is) own.2 in
    let new : IsNew store c.id.result.now = subst (IsNew store) (sym c.id.ensures) (is_new types store rows lists fields c.self.invariant d.id lacks) in
    let least : IsLeastFree store n = c.in_ok-local.ensures.least new in
    let place : n ≡ free_place rows = free_is types store rows lists fields c.self.invariant n least in
    let room : free_place rows < 4294967295 = has_room types store rows lists fields c.self.invariant (let e = c.len.ensures in let t = c.if-len-ge-MOST.false in omega (arith, e, t)) in
    ap (λ rs. record { types = types; rows = rs })
    (c.set_row.ensures ∙ ap (λ xs. set_at n c.args.entry.body (documents_in xs)) c.reserve.ensures.items ∙ ap (λ o. set_at n o rows) (sym c.in-Some.ensures)
    ∙ sym (ap (λ o. by_body put_new o rows) (sym c.in-Some.ensures) ∙ put_at d rows n place room))
    ∙ ap (λ (t : TypedRows). with_rows (by_body put_new c.args.entry.body t.rows) t) c.self.view_is

pub set_row-requires : goal.set_row-requires
set_row-requires c = record { room = λ le. (let cap = c.in_ok-reserve.ensures.ok in omega (arith, cap)) }
