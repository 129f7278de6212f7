-- Which groups some documents make.
use Rattle.std.specs.Prelude.{List, [], ◌++◌, Option, None, Some}
use Rattle.std.specs.Ordering.{int_cmp, nat_cmp}
use Rattle.std.specs.Cmp.Lexicographic.{slice_cmp}
use Rattle.std.specs.FinMap as fin
use Rattle.doc_types.specs.declared.values.FieldValue.TheVariants.{Int, Text}
use Rattle.documents.specs.Fields.{Contents}
use Rattle.query_groups.specs.declared.groups.GroupBy.{GroupBy}
use Rattle.query_groups.specs.declared.answers.Group.{Group}
use Rattle.group_counts.specs.Keyed.{number_in, text_in, groups_by}

-- the groups of numbers, and behind them those of texts; without a field to group by there are none
abbrev pub groups_of : Option GroupBy → List Contents → List Group
groups_of None docs = []
groups_of (Some by) docs = fin.values (groups_by int_cmp Int by.outputs (number_in by.field) docs) ++ fin.values (groups_by (slice_cmp nat_cmp) Text by.outputs (text_in by.field) docs)
