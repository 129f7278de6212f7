use Rattle.std.proofs.Common.{set, ap}
use Rattle.entry_rows.proofs.ChunkLists.{replaced}
use Rattle.entry_rows.proofs.ChunkLaws.{seat_row}
use Rattle.entry_rows.proofs.chunks.Chunks.replace.Goals as goal

pub returns-clause-slots : goal.returns-clause-slots
returns-clause-slots c =
    let lt = seat_row c.args.self.now c.args.seat c.requires.seat c.requires.within in
    replaced (λ r. r.items) c.args.self.now.rows.items c.args.seat.row c.index_mut.result.now _ lt c.args.seat.at c.args.slot
    (c.requires.seat.row lt c.index_mut.result.now)
    (ap (λ r. set r.items c.args.seat.at c.args.slot) c.index_mut.ensures.value)
