use Rattle.std.proofs.Common.{◌≡◌, ◌++◌, drop, option_map}
use Rattle.line_values.specs.View.{items_view}
use Rattle.json_documents.specs.Json.{whole, each}
use Rattle.json_documents.proofs.values.numbers_of.Given as goal

-- the numbers so far and those that are left are all
abbrev pub invariant-loop-item : goal.invariant-loop-item
invariant-loop-item l = option_map (λ rest. l.list.items ++ rest) (each whole (items_view (drop l.item-index l.items))) ≡ each whole (items_view l.items)
