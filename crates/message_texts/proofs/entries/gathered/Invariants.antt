use Rattle.std.proofs.Common.{◌≡◌, drop}
use Rattle.std.specs.FinMap as fin
use Rattle.serde_json.specs.View.{items_view}
use Rattle.message_texts.specs.Entries.{gathered}
use Rattle.message_texts.specs.Fitting.{FitEntries}
use Rattle.message_texts.proofs.entries.gathered.Given as goal

-- the items so far are in the map, and all of its entries fit
abbrev pub invariant-loop-item : goal.invariant-loop-item
invariant-loop-item l = (gathered l.schema l.bucket l.map (items_view (drop l.item-index l.items)) ≡ gathered l.schema l.bucket fin.empty (items_view l.items)) × FitEntries l.schema l.bucket l.map
