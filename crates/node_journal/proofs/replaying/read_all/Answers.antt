use Rattle.std.proofs.Common.{ℕ, List, ◌∙◌, subst, arith}
use Rattle.disks.specs.Disks.{Only}
use Rattle.disks.specs.Moments.{weaker}
use Rattle.node_journal.proofs.Openings.{empty_read, empty_moment, filled_read, cause_long}
use Rattle.node_journal.proofs.replaying.read_all.Goals as goal

pub returns-in-Ok-keep-clause-read : goal.returns-in-Ok-keep-clause-read
returns-in-Ok-keep-clause-read g c =
    empty_read c.args.schema.now (g.D.Disk.state c.args.disk.now).seen (g.D.Disk.state c.keep.new.disk) c.in-Ok.node (omega (arith, c.requires.size, c.if-size-lt6.true)) c.in-Ok-keep.ensures.written c.in-Ok-keep.ensures.durable c.in-Ok.ensures

pub returns-in-Ok-keep-clause-any_moment : goal.returns-in-Ok-keep-clause-any_moment
returns-in-Ok-keep-clause-any_moment g c limit least size settled =
    weaker _ _ _ _ (c.keep.ensures.any_moment settled) (λ f torn. empty_moment c.args.schema.now (g.D.Disk.state c.args.disk.now).seen f limit (omega (arith, c.requires.size, c.if-size-lt6.true)) least size torn)

pub returns-in-Err-clause-any_moment : goal.returns-in-Err-clause-any_moment
returns-in-Err-clause-any_moment g c limit least size settled =
    weaker _ _ _ _ (c.keep.ensures.any_moment settled) (λ f torn. empty_moment c.args.schema.now (g.D.Disk.state c.args.disk.now).seen f limit (omega (arith, c.requires.size, c.if-size-lt6.true)) least size torn)

pub returns-in-Ok-sync-clause-read : goal.returns-in-Ok-sync-clause-read
returns-in-Ok-sync-clause-read g c =
    let file = (g.D.Disk.state c.args.disk.now).seen in
    let durable = subst (λ (f : List ℕ). Only f (g.D.Disk.state c.sync.new.self).may_leave) c.replay.ensures.rests.seen c.in-Ok-sync.ensures.syncs.durable in
    filled_read c.args.schema.now file (g.D.Disk.state c.sync.new.self) c.in-Ok-replay.replayed.node c.in-Ok-replay.replayed.end (omega (arith, c.requires.size, c.if-size-lt6.false)) (c.sync.ensures.syncs.rests.seen ∙ c.replay.ensures.rests.seen) durable c.in-Ok-replay.ensures.replayed

pub returns-in-Err-replay-clause-cause : goal.returns-in-Err-replay-clause-cause
returns-in-Err-replay-clause-cause g c =
    cause_long c.args.schema.now (g.D.Disk.state c.args.disk.now).seen g.D.Disk.last (g.D.Disk.state c.args.disk.now) (g.D.Disk.state c.replay.new.disk) c.in-Err-replay.cause (omega (arith, c.requires.size, c.if-size-lt6.false)) c.in-Err-replay.ensures.cause
