use Rattle.std.proofs.Common.{take}
use Rattle.std.specs.Option.{option_copied}
use Rattle.std.specs.Ordering.{int_eq}
use Rattle.indexmap.specs.IndexMap as table
use Rattle.indexmap.specs.IndexMap.{get_by_text}
use Rattle.document_indexes.specs.Entering.{IsLent}
use Rattle.document_rows.specs.Reading.{row_at}
use Rattle.view_changes.specs.Serving.{rows_of}
use Rattle.group_counts.specs.Keyed.{number_in, text_in}
use Rattle.group_counts.specs.Tallies.{ArePlaced, ArePlacesMore}
use Rattle.group_counts.specs.Gathered.{documents_at}
use Rattle.group_counts.proofs.taking.place_all.Given as goal

abbrev pub invariant-loop-hit : goal.invariant-loop-hit
invariant-loop-hit g l =
    ArePlacesMore (l.by).outputs l.initial.numbers.entries l.numbers.entries (table.get int_eq l.initial.numbers) (table.get int_eq l.numbers)
    × ArePlacesMore (l.by).outputs l.initial.texts.entries l.texts.entries (get_by_text l.initial.texts) (get_by_text l.texts)
    × ArePlaced (number_in (l.by).field) (documents_at (g.V.Lists.seen l.view) (take l.hit-index l.hits)) (table.get int_eq l.numbers)
    × ArePlaced (text_in (l.by).field) (documents_at (g.V.Lists.seen l.view) (take l.hit-index l.hits)) (get_by_text l.texts)
    × IsLent l.type_name l.field (row_at (rows_of l.lent.node (g.V.Lists.seen l.view))) (option_copied l.lent.column)
