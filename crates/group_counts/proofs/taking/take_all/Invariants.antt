use Rattle.std.proofs.Common.{◌≡◌, length, take}
use Rattle.std.specs.Option.{option_copied}
use Rattle.std.specs.Ordering.{int_cmp, int_eq, nat_cmp}
use Rattle.std.specs.Cmp.Lexicographic.{slice_cmp}
use Rattle.indexmap.specs.IndexMap as table
use Rattle.indexmap.specs.IndexMap.{get_by_text}
use Rattle.document_indexes.specs.Entering.{IsLent}
use Rattle.document_rows.specs.Reading.{row_at}
use Rattle.view_changes.specs.Serving.{rows_of}
use Rattle.group_counts.specs.Keyed.{number_in, text_in}
use Rattle.group_counts.specs.Tallies.{AreTaken}
use Rattle.group_counts.specs.Figures.{HaveColumns}
use Rattle.group_counts.specs.Gathered.{documents_at}
use Rattle.group_counts.proofs.taking.take_all.Given as goal

abbrev pub invariant-loop-hit : goal.invariant-loop-hit
invariant-loop-hit g l =
    AreTaken int_cmp (l.by).outputs (number_in (l.by).field) (documents_at (g.V.Lists.seen l.view) (take l.hit-index l.hits)) l.hit-index (table.get int_eq l.initial.numbers) (table.get int_eq l.numbers)
    × AreTaken (slice_cmp nat_cmp) (l.by).outputs (text_in (l.by).field) (documents_at (g.V.Lists.seen l.view) (take l.hit-index l.hits)) l.hit-index (get_by_text l.initial.texts) (get_by_text l.texts)
    × IsLent l.type_name l.field (row_at (rows_of l.lent.node (g.V.Lists.seen l.view))) (option_copied l.lent.column)
    × (length l.slots ≡ length (l.by).outputs)
    × HaveColumns l.type_name (l.by).outputs (g.V.Lists.seen l.view) l.slots
