-- What a search answers of what was read of some lanes. The documents of a node are listed in whatever order.
use Rattle.std.specs.Prelude.{◌≡◌, ◌==◌, ◌&&◌, ◌+◌, ◌++◌, ◌<◌, ◌^◌, ℕ, zero, suc, Bool, not, List, [], ◌∷◌, Some, map, filter, length, if◌then◌else◌}
use Rattle.bucket_ids.specs.Buckets.{Low}
use Rattle.coverage.specs.Covering.{measure_of}
use Rattle.documents.specs.Fields.{Contents}
use Rattle.document_rows.specs.Rows.{document_of, AreDistinct}
use Rattle.view_changes.specs.Views.{View}
use Rattle.view_changes.specs.Kept.{IsView}
use Rattle.query_text.specs.declared.query.Query.{Query}
use Rattle.query_text.specs.Truth.{matches_document}
use Rattle.query_groups.specs.declared.answers.SearchAnswer.{SearchAnswer}
use Rattle.group_counts.specs.Groups.{groups_of}
use Rattle.search_views.specs.Answers.{capped}
use Rattle.lane_journals.specs.Buckets.{Id}
use Rattle.journal_views.specs.JournalViews.{NodeRead, Shows}

-- what was read of the nodes of a lane, by their numbers
abbrev pub LaneRead : Type 0
LaneRead = ℕ → NodeRead

-- these are the documents that a node has, each once
pub record AreDocuments (x : NodeRead) (docs : List Contents) : Type 0 where
  pub once : AreDistinct (map Some docs)
  pub each : (id : Id) → document_of id (map Some docs) ≡ x.document id

-- the same of the 32 nodes of each lane
abbrev pub AreListed : List LaneRead → List (ℕ → List Contents) → Type 0
AreListed [] [] = Unit {0}
AreListed (r ∷ rs) (d ∷ ds) = ((n : ℕ) → n < 32 → AreDocuments (r n) (d n)) × AreListed rs ds
AreListed _ _ = ⊥

-- the node is at the version, and isn't stopped
abbrev pub is_read : ℕ → NodeRead → Bool
is_read w x = (x.version == w) && not x.stopped

-- what so many nodes have, from the one of this number on
unfoldable pub of_nodes : {A : Type 0} → ℕ → ℕ → (ℕ → List A) → List A
of_nodes zero n f = []
of_nodes (suc k) n f = f n ++ of_nodes k (suc n) f

-- of the nodes that are read: the documents of which the query is true, and the regions
abbrev pub found_in : Query → ℕ → LaneRead → (ℕ → List Contents) → List Contents
found_in q w r docs = of_nodes 32 0 (λ n. if is_read w (r n) then filter (matches_document q) (docs n) else [])

abbrev pub regions_in : ℕ → LaneRead → List Low
regions_in w r = of_nodes 32 0 (λ n. if is_read w (r n) then (r n).regions else [])

-- of all lanes
abbrev pub all_found : Query → ℕ → List LaneRead → List (ℕ → List Contents) → List Contents
all_found q w (r ∷ rs) (d ∷ ds) = found_in q w r d ++ all_found q w rs ds
all_found q w _ _ = []

abbrev pub measure_in : ℕ → List LaneRead → ℕ
measure_in w [] = 0
measure_in w (r ∷ rs) = measure_of (regions_in w r) + measure_in w rs

-- the answer of a query under a version: how many documents were found, the groups of them, and the measure of the
-- regions of the nodes that were read, which is full where it is that of all keys
pub record IsAnswer (q : Query) (w : ℕ) (reads : List LaneRead) (a : SearchAnswer) : Type 0 where
  pub docs : List (ℕ → List Contents)
  pub listed : AreListed reads docs
  pub version : a.version ≡ w
  pub count : a.count ≡ length (all_found q w reads docs)
  pub groups : a.groups ≡ groups_of q.group (all_found q w reads docs)
  pub covered : a.covered ≡ capped (measure_in w reads)
  pub full : a.full ≡ (a.covered == 2 ^ 58)

-- the views show what was read, one of each lane
abbrev pub AreShown : List LaneRead → List View → Type 0
AreShown [] [] = Unit {0}
AreShown (r ∷ rs) (v ∷ vs) = (Shows r v × IsView v) × AreShown rs vs
AreShown _ _ = ⊥
