use Rattle.std.proofs.Common.{get_or, ap, sym, ◌∙◌}
use Rattle.std.proofs.lemmas.List.Concat.{get_or-flat_map}
use Rattle.entry_rows.proofs.ChunkLaws.{seat_row}
use Rattle.entry_rows.proofs.chunks.Chunks.at.Goals as goal

pub returns : goal.returns
returns c =
    let row = c.index.result.now in
    let x = c.index-2.result.now in
    let lt = seat_row c.args.self.now c.args.seat c.requires.seat c.requires.within in
    c.index-2.ensures ∙ ap (λ r. get_or r.items c.args.seat.at x) c.index.ensures
    ∙ sym (get_or-flat_map (λ r. r.items) c.args.self.now.rows.items c.args.seat.row c.args.seat.at row x lt (c.requires.seat.row lt row))
