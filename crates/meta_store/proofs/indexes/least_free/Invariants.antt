use Rattle.std.proofs.Common.{◌-◌, ◌≡◌, ◌<◌, ◌≤◌, ℕ, length, get_or}
use Rattle.meta_store.proofs.indexes.least_free.Given as goal

abbrev pub invariant-loop-low : goal.invariant-loop-low
invariant-loop-low l = (l.low ≤ l.high) × (l.high ≤ length l.locals) × ((k : ℕ) → k < l.low → get_or l.locals k 0 ≡ k) × (l.high < length l.locals → l.high < get_or l.locals l.high 0)

abbrev pub decreases-loop-low : goal.decreases-loop-low
decreases-loop-low l = l.high - l.low
