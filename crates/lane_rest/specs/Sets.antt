-- Sets of the nodes 0 to 31, as tests, and the newest of what they hold.
use Rattle.std.specs.Prelude.{◌||◌, ℕ, zero, suc, Bool, false, Option, None, if◌then◌else◌}
use Rattle.lane_journals.specs.Stamps.{Stamp, newer}
use Rattle.lane_journals.specs.Events.{Content}

-- some number below k is in the set
unfoldable pub any_below : (ℕ → Bool) → ℕ → Bool
any_below p zero = false
any_below p (suc k) = p k || any_below p k

-- the newest of the stamps at 0, at 1 to k - 1
unfoldable pub newest_below : (ℕ → Option Stamp) → ℕ → Option Stamp
newest_below f zero = None
newest_below f (suc k) = newer (f k) (newest_below f k)

-- what a node holds, where it counts
abbrev pub held_if : Bool → Content → Content
held_if counts held id = if counts then held id else None

-- of each document the newest that a node of the set holds
unfoldable pub newest_of : (ℕ → Bool) → (ℕ → Content) → Content
newest_of set held id = newest_below (λ n. held_if (set n) (held n) id) 32
