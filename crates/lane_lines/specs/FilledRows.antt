-- Why an operation ends whose row has too few complete members after its round.
use Rattle.std.specs.Prelude.{◌≡◌, ◌≤◌, ◌<◌, ℕ, Bool, true, false, not, ◌&&◌, Option, None, Some}
use Rattle.node_sets.specs.Members.{has_node, size_of}
use Rattle.op_machine.specs.Nodes.{count_nodes}
use Rattle.op_machine.specs.Outcomes.{absent_of}
use Rattle.round_keeping.specs.declared.round_run.RoundEnd.{RoundEnd}
use Rattle.lane_lines.specs.declared.readying.Shortage.{Shortage}
use Rattle.lane_lines.specs.declared.readying.Shortage.TheVariants as shortage

-- for want of memory where one of those asked last wanted it; where there was a union the complete members are counted,
-- else the serving nodes that were shown
abbrev pub shortage_by : Bool → Bool → RoundEnd → ℕ → ℕ → Shortage
shortage_by true whole e serving acks = shortage.NoMemory
shortage_by false true e serving acks = shortage.TooFew (size_of (e.row).complete) acks (absent_of (e.row).active (has_node e.missing))
shortage_by false false e serving acks = shortage.TooFew (count_nodes (λ n. has_node serving n && not (has_node e.missing n))) (size_of serving) (absent_of (e.row).active (has_node e.missing))

abbrev pub shortage_after : RoundEnd → ℕ → ℕ → Shortage
shortage_after e serving acks = shortage_by e.short e.whole e serving acks

-- what the row comes to: it has enough complete members, or the operation ends
abbrev pub IsFound : RoundEnd → ℕ → ℕ → Option Shortage → Type 0
IsFound e serving acks None = acks ≤ size_of (e.row).complete
IsFound e serving acks (Some x) = (size_of (e.row).complete < acks) × (x ≡ shortage_after e serving acks)
