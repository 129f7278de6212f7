-- Sets of the nodes 0 to 31, as tests.
use Rattle.std.specs.Prelude.{ℕ, zero, suc, ◌+◌, Bool, Option, None, Some, if◌then◌else◌}

-- of so many numbers, from one on, the first that passes a test
unfoldable pub first_from : ℕ → ℕ → (ℕ → Bool) → Option ℕ
first_from zero n p = None
first_from (suc k) n p = if p n then Some n else first_from k (n + 1) p

-- the least node that passes a test
unfoldable pub first_node : (ℕ → Bool) → Option ℕ
first_node p = first_from 32 0 p

-- how many numbers below one pass a test
unfoldable pub count_below : (ℕ → Bool) → ℕ → ℕ
count_below p zero = 0
count_below p (suc n) = count_below p n + (if p n then 1 else 0)

-- how many nodes pass a test
unfoldable pub count_nodes : (ℕ → Bool) → ℕ
count_nodes p = count_below p 32
