use Rattle.std.proofs.Common.{◌≡◌, drop, option_map}
use Rattle.line_values.specs.View.{items_view}
use Rattle.json_documents.specs.Json.{each}
use Rattle.feed_lines.specs.Values.{node_of, set_onto, set_of}
use Rattle.feed_lines.proofs.values.set_of.Given as goal

-- the set so far with the numbers that are left is the set of all
abbrev pub invariant-loop-item : goal.invariant-loop-item
invariant-loop-item l = option_map (set_onto l.bits) (each node_of (items_view (drop l.item-index l.items))) ≡ option_map set_of (each node_of (items_view l.items))
