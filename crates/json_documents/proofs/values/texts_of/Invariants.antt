use Rattle.std.proofs.Common.{◌≡◌, ◌++◌, drop, option_map}
use Rattle.line_values.specs.View.{items_view}
use Rattle.json_documents.specs.Json.{each}
use Rattle.serde_json.specs.Find.{as_str}
use Rattle.json_documents.proofs.values.texts_of.Given as goal

-- the texts so far and those that are left are all
abbrev pub invariant-loop-item : goal.invariant-loop-item
invariant-loop-item l = option_map (λ rest. l.list.items ++ rest) (each as_str (items_view (drop l.item-index l.items))) ≡ each as_str (items_view l.items)
