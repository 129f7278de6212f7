use Rattle.std.proofs.Common.{arith}
use Rattle.bucket_db.proofs.Moves.{moved_forward}
use Rattle.bucket_db.proofs.changes.move_forward.Goals as goal

pub returns-clause-rows : goal.returns-clause-rows
returns-clause-rows c = moved_forward c.args.rows.now.items c.copy_within.new.self.items c.args.from c.args.to c.args.row c.requires.rising c.requires.to (omega arith)
    c.copy_within.ensures.by_index.0 c.copy_within.ensures.by_index.1 c.copy_within.ensures.by_index.2
