use Rattle.std.proofs.Common.{◌≡◌, ◌<◌, length, get_or, ap, sym, ◌∙◌, arith}
use Rattle.std.proofs.lemmas.List.Concat.{get_or-flat_map}
use Rattle.entry_rows.proofs.ChunkLists.{row_within}
use Rattle.entry_rows.proofs.chunks.Chunks.slot.Goals as goal

pub returns-in-Some-clause-slot : goal.returns-in-Some-clause-slot
returns-in-Some-clause-slot c =
    let row = c.in-Some.row.now in
    let lt : c.args.seat.row < length c.args.self.now.rows.items = rw c.deref.ensures.value at c.in-Some.ensures.lookup.3.0 in
    let is : row ≡ get_or c.args.self.now.rows.items c.args.seat.row row = rw c.deref.ensures.value at c.in-Some.ensures.lookup.1 in
    c.index.ensures ∙ ap (λ r. get_or r.items c.args.seat.at c.index.result.now) is
    ∙ sym (get_or-flat_map (λ r. r.items) c.args.self.now.rows.items c.args.seat.row c.args.seat.at row c.index.result.now lt (c.requires.row lt row))

pub returns-in-Some-clause-within : goal.returns-in-Some-clause-within
returns-in-Some-clause-within c =
    let lt : c.args.seat.row < length c.args.self.now.rows.items = rw c.deref.ensures.value at c.in-Some.ensures.lookup.3.0 in
    omega (arith, c.requires.row lt c.in-Some.row.now, row_within (λ r. r.items) c.args.self.now.rows.items c.args.seat.row c.in-Some.row.now lt)
