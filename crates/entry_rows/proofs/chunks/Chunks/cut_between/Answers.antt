use Rattle.std.proofs.Common.{arith}
use Rattle.entry_rows.proofs.ChunkLaws.{rows_rise}
use Rattle.entry_rows.proofs.chunks.Chunks.cut_between.Goals as goal

pub cut_rows-requires-clause-rising : goal.cut_rows-requires-clause-rising
cut_rows-requires-clause-rising c =
    rows_rise c.args.self.now c.args.from c.args.to c.requires.to c.requires.rising (omega (arith, c.if-to-len.false, c.len-2.ensures, c.args.self.now.rows.ok.0)) (omega (arith, c.if-from-len.false, c.len.ensures, c.args.self.now.rows.ok.0)) c.if-from-to.false
