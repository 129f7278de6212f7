-- What the code keeps of the documents that came.
use Rattle.std.specs.Prelude.{ℕ, ℤ, List, [], map, Option, None, Some, String}
use Rattle.std.specs.Ordering.{int_cmp, nat_cmp}
use Rattle.std.specs.Cmp.Lexicographic.{slice_cmp}
use Rattle.std.specs.Map.{lookup}
use Rattle.std.specs.BTreeMap.{is_at}
use Rattle.indexmap.specs.IndexMap.{IndexMap}
use Rattle.std.specs.String.{string_bytes}
use Rattle.doc_types.specs.declared.outputs.OutputKind.{OutputKind}
use Rattle.documents.specs.Fields.{Contents}
use Rattle.query_groups.specs.declared.groups.GroupBy.{GroupBy}
use Rattle.document_rows.specs.Reading.{row_at}
use Rattle.view_changes.specs.Views.{View}
use Rattle.view_changes.specs.Serving.{rows_of}
use Rattle.match_views.specs.declared.hits.Hit.{Hit}
use Rattle.group_counts.specs.Numbers.{found}
use Rattle.group_counts.specs.Keyed.{number_in, text_in}
use Rattle.group_counts.specs.Tallies.{Told, AreTallies, counted_of}

-- what the code keeps: by what it groups, how many views came, and of numbers and of texts the tallies that count
pub record Gathered : Type 0 where
  pub by : Option GroupBy
  pub views : ℕ
  pub numbers : List (ℤ × Told)
  pub texts : List (List ℕ × Told)

abbrev pub gathered_as : {Y S : Type 0} → Option GroupBy → ℕ → IndexMap ℤ Told S → IndexMap (String Y) Told S → Gathered
gathered_as by views numbers texts = record { by = by; views = views; numbers = counted_of numbers.entries; texts = map (λ e. (string_bytes e.0, e.1)) (counted_of texts.entries) }

-- what is said of a group; nothing where there are none
abbrev pub outputs_by : Option GroupBy → List OutputKind
outputs_by None = []
outputs_by (Some by) = by.outputs

abbrev pub number_tally : Gathered → ℤ → Option Told
number_tally g z = lookup (is_at (int_cmp z)) g.numbers

abbrev pub text_tally : Gathered → List ℕ → Option Told
text_tally g t = lookup (is_at (slice_cmp nat_cmp t)) g.texts

pub record HasTallies (by : GroupBy) (docs : List Contents) (g : Gathered) : Type 0 where
  pub numbers : AreTallies int_cmp by.outputs (number_in by.field) docs (number_tally g)
  pub texts : AreTallies (slice_cmp nat_cmp) by.outputs (text_in by.field) docs (text_tally g)

abbrev pub HasTalliesOf : Option GroupBy → List Contents → Gathered → Type 0
HasTalliesOf None docs g = Unit {0}
HasTalliesOf (Some by) docs g = HasTallies by docs g

-- these are the documents that came, in order
abbrev pub IsGathered : List Contents → Gathered → Type 0
IsGathered docs g = HasTalliesOf g.by docs g

-- the documents at some hits of a view, in order
abbrev pub documents_at : View → List Hit → List Contents
documents_at v hits = found (λ hit. row_at (rows_of hit.node v) hit.local) hits
