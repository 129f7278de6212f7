use Rattle.std.proofs.Common.{◌≡◌, ◌∙◌, true, false, None, rules, sym, ap, subst}
use Rattle.std.specs.FinMap as fin
use Rattle.entry_maps.specs.Entries.{is_newer, with_entry}
use Rattle.document_rows.specs.Rows.{has_row}
use Rattle.sub_databases.specs.Parts.{AreParts, place_in}
use Rattle.sub_databases.specs.Changes.{after_take, place_after}
use Rattle.sub_databases.proofs.PartLaws.{parts_of, waits, kept_waiting, placed_waiting, kept_either, placed_either, newer_first, take_room}
use Rattle.sub_databases.proofs.parts.SubDatabases.take.Goals as goal

pub invariant_of-self-then-is_none : goal.invariant_of-self-then-is_none
invariant_of-self-then-is_none c =
    let m = c.self.inside.entries in
    let t = c.self.inside.ready in
    kept_either m t c.args.entry.now c.args.ready (λ r. take_room c.entries_find_room.ensures m t c.args.entry.now (c.has_room.ensures.fits (search rules) r) c.len.ensures.distinct c.self.invariant)
    c.self.invariant c.take_first.result c.take_first.new.entries c.take_first.new.rows c.take_first.ensures

pub returns-then-is_none-clause-places : goal.returns-then-is_none-clause-places
returns-then-is_none-clause-places c =
    let m = c.self.inside.entries in
    let t = c.self.inside.ready in
    let none : fin.get m c.args.entry.now.id ≡ None = search rules in
    rw (← c.self.view_is)
    (placed_either m t c.args.entry.now c.args.ready (λ r. take_room c.entries_find_room.ensures m t c.args.entry.now (c.has_room.ensures.fits (search rules) r) c.len.ensures.distinct c.self.invariant)
    (newer_first m c.args.entry.now none) c.take_first.result c.take_first.new.entries c.take_first.new.rows c.take_first.ensures)

pub invariant_of-self-2 : goal.invariant_of-self-2
invariant_of-self-2 c =
    let m = c.self.inside.entries in
    let t = c.self.inside.ready in
    kept_either m t c.args.entry.now c.args.ready (λ r. take_room c.entries_find_room.ensures m t c.args.entry.now (c.has_room.ensures.fits (search rules) r) c.len.ensures.distinct c.self.invariant)
    c.self.invariant c.take_newer.result c.take_newer.new.entries c.take_newer.new.rows c.take_newer.ensures

pub returns-clause-places : goal.returns-clause-places
returns-clause-places c =
    let m = c.self.inside.entries in
    let t = c.self.inside.ready in
    let newer : is_newer c.args.entry.now (fin.get m c.args.entry.now.id) ≡ true = search rules in
    rw (← c.self.view_is)
    (placed_either m t c.args.entry.now c.args.ready (λ r. take_room c.entries_find_room.ensures m t c.args.entry.now (c.has_room.ensures.fits (search rules) r) c.len.ensures.distinct c.self.invariant)
    newer c.take_newer.result c.take_newer.new.entries c.take_newer.new.rows c.take_newer.ensures)

pub invariant_of-self-then-not-is_ready : goal.invariant_of-self-then-not-is_ready
invariant_of-self-then-not-is_ready c =
    let m = c.self.inside.entries in
    let t = c.self.inside.ready in
    let e = c.args.entry.now in
    let none : has_row e.id t.rows ≡ false = sym c.is_ready.ensures ∙ c.if-not-is_ready.true in
    subst (λ n. AreParts (parts_of n t)) (sym (c.in_ok-put_at.ensures.ok ∙ ap (with_entry m) c.in_ok-copy.ensures)) (kept_waiting m t e none c.self.invariant)

pub returns-then-not-is_ready-clause-ok : goal.returns-then-not-is_ready-clause-ok
returns-then-not-is_ready-clause-ok c =
    let m = c.self.inside.entries in
    let t = c.self.inside.ready in
    let e = c.args.entry.now in
    let none : has_row e.id t.rows ≡ false = sym c.is_ready.ensures ∙ c.if-not-is_ready.true in
    rw (← c.self.view_is)
    (ap (λ n. parts_of n t) (c.in_ok-put_at.ensures.ok ∙ ap (with_entry m) c.in_ok-copy.ensures) ∙ waits m t e none ∙ ap (λ r. after_take e r (parts_of m t)) (sym c.if-not-ready.true))

pub returns-then-not-is_ready-clause-places : goal.returns-then-not-is_ready-clause-places
returns-then-not-is_ready-clause-places c = λ q.
    let m = c.self.inside.entries in
    let t = c.self.inside.ready in
    let e = c.args.entry.now in
    let none : has_row e.id t.rows ≡ false = sym c.is_ready.ensures ∙ c.if-not-is_ready.true in
    rw (← c.self.view_is)
    (ap (λ n. place_in (parts_of n t) q) (c.in_ok-put_at.ensures.ok ∙ ap (with_entry m) c.in_ok-copy.ensures) ∙ placed_waiting m t e none q
    ∙ ap (λ r. place_after e r (parts_of m t) q) (sym c.if-not-ready.true))
