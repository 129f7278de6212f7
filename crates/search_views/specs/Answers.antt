-- What a search answers: of what its query says, a version, and one view of each lane.
use Rattle.std.specs.Prelude.{◌&&◌, ◌+◌, ◌++◌, ◌==◌, ◌^◌, ℕ, Bool, List, [], ◌∷◌, filter, length, min, if◌then◌else◌}
use Rattle.documents.specs.Fields.{Contents}
use Rattle.document_rows.specs.Rows.{Rows}
use Rattle.view_changes.specs.Views.{NodeView, View}
use Rattle.view_changes.specs.Serving.{serves, covered_at}
use Rattle.std.specs.Str.{bytes_eq}
use Rattle.conditions.specs.Formulas.{holds}
use Rattle.document_ids.specs.Parts.{type_of}
use Rattle.query_text.specs.Grammar.{Said}
use Rattle.query_text.specs.Truth.{term_holds}
use Rattle.query_groups.specs.declared.answers.SearchAnswer.{SearchAnswer}
use Rattle.group_counts.specs.Numbers.{found}
use Rattle.group_counts.specs.Groups.{groups_of}

-- the documents of a node, by local id
abbrev pub documents_in : Rows → List Contents
documents_in rows = found (λ r. r) rows

-- the query that says so is true of the document
abbrev pub is_found : Said → Contents → Bool
is_found q d = bytes_eq (type_of d.id) q.type_name && holds (term_holds d) q.asked

-- of the nodes that serve at a version: the documents of which the query is true
abbrev pub matched : Said → ℕ → List NodeView → List Contents
matched q w [] = []
matched q w (n ∷ ns) = (if serves w n then filter (is_found q) (documents_in n.rows) else []) ++ matched q w ns

-- of all views
abbrev pub all_matched : Said → ℕ → List View → List Contents
all_matched q w [] = []
all_matched q w (v ∷ vs) = matched q w v.nodes ++ all_matched q w vs

-- the sum of the measures of the regions of the nodes that serve, in all views
abbrev pub all_covered : ℕ → List View → ℕ
all_covered w [] = 0
all_covered w (v ∷ vs) = covered_at w v + all_covered w vs

-- a sum above 2^64 - 1 counts as that number
abbrev pub capped : ℕ → ℕ
capped n = min n 18446744073709551615

-- how many documents were found; the measure covered, which is full where it is that of all keys; the groups
abbrev pub search_answer : Said → ℕ → List View → SearchAnswer
search_answer q w vs = record {
  version = w;
  count = length (all_matched q w vs);
  covered = capped (all_covered w vs);
  full = capped (all_covered w vs) == 2 ^ 58;
  groups = groups_of q.group (all_matched q w vs);
}
