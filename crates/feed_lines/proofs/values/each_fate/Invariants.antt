use Rattle.std.proofs.Common.{◌≡◌, ◌++◌, drop, option_map}
use Rattle.line_values.specs.View.{items_view}
use Rattle.json_documents.specs.Json.{each}
use Rattle.feed_lines.specs.Values.{fate_of}
use Rattle.feed_lines.proofs.values.each_fate.Given as goal

-- the fates so far and those that are left are all
abbrev pub invariant-loop-item : goal.invariant-loop-item
invariant-loop-item l = option_map (λ rest. l.list.items ++ rest) (each fate_of (items_view (drop l.item-index l.items))) ≡ each fate_of (items_view l.items)
