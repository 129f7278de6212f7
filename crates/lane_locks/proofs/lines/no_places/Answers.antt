use Rattle.std.proofs.Common.{rules, ◌≡◌, ◌+◌, ℕ, sym, subst}
use Rattle.lane_locks.specs.Lines.{AreEmpty}
use Rattle.lane_locks.proofs.Listing.{no-empty, more-empty}
use Rattle.lane_locks.proofs.lines.no_places.Goals as goal

pub loop-init : goal.loop-init
loop-init c = subst (AreEmpty 0) (sym c.new-last.ensures.items) no-empty

pub loop-preserved : goal.loop-preserved
loop-preserved c = subst (AreEmpty (c.loop.counter + 1)) (sym c.in_ok-push.ensures.items) (more-empty c.loop.counter c.loop.last.items c.loop.invariant)

pub returns : goal.returns
returns c =
    let end : c.loop.counter ≡ c.args.feeders = search rules in
    subst (λ (n : ℕ). AreEmpty n c.loop.last.items) end c.loop.invariant
