-- How many members a set has, by a test.
use Rattle.std.proofs.Common.{◌≡◌, ◌∙◌, ◌==◌, ◌&&◌, not, ℕ, zero, suc, ◌+◌, Bool, cond, refl, ap, nat_le, add_comm}
use Rattle.node_sets.specs.Members.{has_node, size_of, size_below}
use Rattle.bucket_db.specs.declared.row.Row.{Row}
use Rattle.lane_journals.specs.Sets.{count_below, count}
use Rattle.pass_machine.specs.declared.notes.RowNote.{RowNote}
use Rattle.pass_machine.specs.Settling.{are_enough}

below-same : (set : ℕ) (p : ℕ → Bool) → ((n : ℕ) → has_node set n ≡ p n) → (k : ℕ) → size_below set k ≡ count_below p k
unfolding size_below count_below
below-same set p h zero = refl
below-same set p h (suc k) =
    ap (λ (m : ℕ). m + cond (has_node set k) 1 0) (below-same set p h k)
    ∙ (ap (λ (b : Bool). count_below p k + cond b 1 0) (h k) ∙ add_comm (count_below p k) (cond (p k) 1 0))

size-same : (set : ℕ) (p : ℕ → Bool) → ((n : ℕ) → has_node set n ≡ p n) → size_of set ≡ count p
unfolding size_of count
size-same set p h = below-same set p h 32

-- as many as a write needs
pub enough_are : (acks keepers : ℕ) (row : Row) (note : RowNote) (node : ℕ) → ((n : ℕ) → has_node keepers n ≡ ((has_node row.complete n && has_node note.holders n) && not (n == node))) → nat_le acks (size_of keepers) ≡ are_enough acks row note node
enough_are acks keepers row note node h = ap (λ (m : ℕ). nat_le acks m) (size-same keepers (λ n. (has_node row.complete n && has_node note.holders n) && not (n == node)) h)
