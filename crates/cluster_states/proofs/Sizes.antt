-- The size of a set counts the numbers that pass its test.
use Rattle.std.proofs.Common.{◌≡◌, ℕ, zero, suc, ◌+◌, ◌≤◌, Bool, List, ◌&&◌, not, cond, ap, ap₂, ◌∙◌, arith}
use Rattle.node_sets.specs.Members.{has_node, size_below}
use Rattle.cluster_states.specs.ClusterStates.{State}
use Rattle.cluster_states.specs.Publishing.{how_many, is_known, serves, out_of}

-- how sizes grow, and their bound
abbrev pub Grows : Type 0
Grows = (a k : ℕ) → size_below a (k + 1) ≡ size_below a k + cond (has_node a k) 1 0

abbrev pub Bounded : Type 0
Bounded = (a k : ℕ) → size_below a k ≤ k

size_is : Grows → Bounded → (set : ℕ) (p : ℕ → Bool) → ((n : ℕ) → has_node set n ≡ p n) → (k : ℕ) → size_below set k ≡ how_many p k
size_is grows bounded set p same zero = let few = bounded set 0 in omega arith
size_is grows bounded set p same (suc k) =
    ap (size_below set) (omega arith) ∙ grows set k ∙ ap₂ (λ n b. n + cond b 1 0) (size_is grows bounded set p same k) (same k)

pub size_is_out : Grows → Bounded → (set : ℕ) (states : List State) (s : State) → ((n : ℕ) → has_node set n ≡ (is_known states n && not (serves s n))) → size_below set 32 ≡ out_of states s
unfolding out_of
size_is_out grows bounded set states s same = size_is grows bounded set (λ n. is_known states n && not (serves s n)) same 32
