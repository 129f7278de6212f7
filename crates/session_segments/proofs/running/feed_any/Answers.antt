use Rattle.std.proofs.Common.{List, length, sym, subst}
use Rattle.lane_locks.specs.declared.lines.Stage.{Stage}
use Rattle.session_segments.specs.Sorted.{HaveRun}
use Rattle.session_segments.proofs.LaneRuns.{none_ran, may_idle}
use Rattle.session_segments.proofs.running.feed_any.Goals as goal

pub returns-then-not-any-clause-ran : goal.returns-then-not-any-clause-ran
returns-then-not-any-clause-ran g c =
    let feeders = length c.args.feeders.now in
    let cell = c.args.session.now.cell in
    subst (λ (xs : List (List Stage)). HaveRun feeders c.args.lists.items cell cell xs) (sym c.new.ensures.items)
    (none_ran feeders c.args.lists.items cell (c.requires.none c.if-not-any.true) c.requires.holds (may_idle feeders cell.lanes c.args.lists.items c.requires.may c.requires.many))
