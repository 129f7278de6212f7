-- The members of a set of nodes, which is the number of its bits.
use Rattle.std.specs.Prelude.{◌≡◌, ◌==◌, ◌&&◌, ℕ, zero, suc, ◌+◌, Bool, true, nat_lt, if◌then◌else◌}
use Rattle.std.specs.Int.{bit_at}

-- whether a number is a member
unfoldable pub has_node : ℕ → ℕ → Bool
has_node bits node = nat_lt node 32 && bit_at bits node == 1

-- how many members are below a number
unfoldable pub size_below : ℕ → ℕ → ℕ
size_below bits zero = 0
size_below bits (suc node) = size_below bits node + (if has_node bits node then 1 else 0)

-- how many members there are
unfoldable pub size_of : ℕ → ℕ
size_of bits = size_below bits 32

-- each member of one set is one of the other
abbrev pub Within : ℕ → ℕ → Type 0
Within a b = (node : ℕ) → has_node a node ≡ true → has_node b node ≡ true
