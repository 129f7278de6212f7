use Rattle.std.proofs.Common.{◌≡◌, ◌<◌, ◌≤◌, ℕ, true, length, Some, slice_get}
use Rattle.line_feeders.specs.declared.feeder.Errand.{Errand}
use Rattle.line_feeders.specs.Calls.{IsAnswer}
use Rattle.line_feeders.specs.Errands.{RanErrand}
use Rattle.line_feeders.proofs.feeder.feed.Given as goal

abbrev pub invariant-loop-place : goal.invariant-loop-place
invariant-loop-place g l =
    (l.feeder.errands ≡ l.fn.feeder.errands)
    × (l.feeder.done ≡ l.place)
    × (l.place ≤ length l.feeder.errands.items)
    × ((at : ℕ) (errand : Errand) → at < l.place → slice_get l.fn.feeder.errands.items at ≡ Some errand
    → RanErrand (IsAnswer g.T.LineTurns.number g.T.LineTurns.does) l.fn.locks errand true)
