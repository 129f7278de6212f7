-- A search over views that show what was read of some lanes gives the answer of what was read.
use Rattle.std.proofs.Common.{◌≡◌, ℕ, zero, suc, ◌==◌, ◌+◌, ◌<◌, ◌++◌, ◌&&◌, ◌||◌, not, cond, List, [], ◌∷◌, map, filter, length, None, Some, refl, sym, ap, ap₂, ◌∙◌, arith}
use Rattle.std.specs.Str.{bytes_eq}
use Rattle.coverage.specs.Covering.{measure_of}
use Rattle.documents.specs.Fields.{Contents}
use Rattle.document_rows.specs.Rows.{Rows, has_row, document_of, AreDistinct}
use Rattle.view_changes.specs.Views.{NodeView, View, node_at}
use Rattle.view_changes.specs.Kept.{IsNode, AreNodes, IsView}
use Rattle.view_changes.specs.Serving.{serves, node_regions}
use Rattle.query_text.specs.Grammar.{said_of}
use Rattle.query_text.specs.declared.query.Query.{Query}
use Rattle.query_text.specs.Truth.{matches_document}
use Rattle.search_views.specs.Answers.{documents_in, matched, all_matched, all_covered, capped, search_answer}
use Rattle.group_counts.specs.Groups.{groups_of}
use Rattle.journal_views.specs.JournalViews.{NodeRead, HasRead, Shows}
use Rattle.journal_views.specs.Searched.{LaneRead, AreDocuments, AreListed, is_read, of_nodes, found_in, regions_in, all_found, measure_in, IsAnswer, AreShown}

-- ---- the documents of a node

has-listed : (id : List ℕ) (rows : Rows) → has_row id (map Some (documents_in rows)) ≡ has_row id rows
has-listed id [] = refl
has-listed id (None ∷ rows) = has-listed id rows
has-listed id (Some d ∷ rows) = ap (λ t. bytes_eq d.id id || t) (has-listed id rows)

document-listed : (id : List ℕ) (rows : Rows) → document_of id (map Some (documents_in rows)) ≡ document_of id rows
document-listed id [] = refl
document-listed id (None ∷ rows) = document-listed id rows
document-listed id (Some d ∷ rows) = ap (λ r. cond (bytes_eq d.id id) (Some d) r) (document-listed id rows)

distinct-listed : (rows : Rows) → AreDistinct rows → AreDistinct (map Some (documents_in rows))
distinct-listed [] h = tt
distinct-listed (None ∷ rows) h = distinct-listed rows h
distinct-listed (Some d ∷ rows) h = (has-listed d.id rows ∙ h.0, distinct-listed rows h.1)

documents-listed : (x : NodeRead) (n : NodeView) → HasRead x n → IsNode n → AreDocuments x (documents_in n.rows)
documents-listed x n r k = record { once = distinct-listed n.rows k.distinct; each = λ id. document-listed id n.rows ∙ r.documents_are id }

node-is : (ns : List NodeView) → AreNodes ns → (n : ℕ) → n < length ns → IsNode (node_at n ns)
node-is [] h n l = absurd (omega (arith, l))
node-is (x ∷ xs) h zero l = h.0
node-is (x ∷ xs) h (suc n) l = node-is xs h.1 n (omega (arith, l))

-- ---- nodes one after the other

shifted : {A : Type 0} (k n : ℕ) (f : ℕ → List A) → of_nodes k (suc n) f ≡ of_nodes k n (λ i. f (suc i))
unfolding of_nodes
shifted zero n f = refl
shifted (suc k) n f = ap (λ xs. f (suc n) ++ xs) (shifted k (suc n) f)

alike : {A : Type 0} (k n : ℕ) (f g : ℕ → List A) → ((i : ℕ) → i < n + k → f i ≡ g i) → of_nodes k n f ≡ of_nodes k n g
unfolding of_nodes
alike zero n f g h = refl
alike (suc k) n f g h = ap₂ (λ xs ys. xs ++ ys) (h n (omega arith)) (alike k (suc n) f g (λ i l. h i (omega (arith, l))))

-- what each node has by itself, one after the other
abbrev one_by_one : {A : Type 0} → (NodeView → List A) → List NodeView → List A
one_by_one f [] = []
one_by_one f (n ∷ ns) = f n ++ one_by_one f ns

by-number : {A : Type 0} (f : NodeView → List A) (ns : List NodeView) → one_by_one f ns ≡ of_nodes (length ns) 0 (λ i. f (node_at i ns))
unfolding of_nodes
by-number f [] = refl
by-number f (n ∷ ns) = ap (λ xs. f n ++ xs) (by-number f ns ∙ sym (shifted (length ns) 0 (λ i. f (node_at i (n ∷ ns)))))

matched-each : (q : Query) (w : ℕ) (ns : List NodeView) → matched (said_of q) w ns ≡ one_by_one (λ n. cond (serves w n) (filter (matches_document q) (documents_in n.rows)) []) ns
matched-each q w [] = refl
matched-each q w (n ∷ ns) = ap (λ xs. cond (serves w n) (filter (matches_document q) (documents_in n.rows)) [] ++ xs) (matched-each q w ns)

regions-each : (w : ℕ) (ns : List NodeView) → node_regions w ns ≡ one_by_one (λ n. cond (serves w n) n.regions []) ns
regions-each w [] = refl
regions-each w (n ∷ ns) = ap (λ xs. cond (serves w n) n.regions [] ++ xs) (regions-each w ns)

-- ---- a lane

serves-read : (w : ℕ) (x : NodeRead) (n : NodeView) → HasRead x n → serves w n ≡ is_read w x
serves-read w x n r = ap₂ (λ v s. (v == w) && not s) r.version_is r.stopped_is

-- the documents of each node of a view
abbrev listed_in : View → ℕ → List Contents
listed_in v n = documents_in (node_at n v.nodes).rows

module _ (w : ℕ) (r : LaneRead) (v : View) (shows : Shows r v) (is : IsView v) where
  lane-listed : (n : ℕ) → n < 32 → AreDocuments (r n) (listed_in v n)
  lane-listed n l = let many = is.many in documents-listed (r n) (node_at n v.nodes) (shows.nodes n l) (node-is v.nodes is.nodes n (omega (arith, l, many)))

  lane-matched : (q : Query) → matched (said_of q) w v.nodes ≡ found_in q w r (listed_in v)
  lane-matched q =
      matched-each q w v.nodes
      ∙ by-number (λ n. cond (serves w n) (filter (matches_document q) (documents_in n.rows)) []) v.nodes
      ∙ ap (λ k. of_nodes k 0 (λ i. cond (serves w (node_at i v.nodes)) (filter (matches_document q) (listed_in v i)) [])) is.many
      ∙ alike 32 0 (λ i. cond (serves w (node_at i v.nodes)) (filter (matches_document q) (listed_in v i)) []) (λ i. cond (is_read w (r i)) (filter (matches_document q) (listed_in v i)) [])
      (λ i l. ap (λ t. cond t (filter (matches_document q) (listed_in v i)) []) (serves-read w (r i) (node_at i v.nodes) (shows.nodes i (omega (arith, l)))))

  lane-regions : node_regions w v.nodes ≡ regions_in w r
  lane-regions =
      regions-each w v.nodes
      ∙ by-number (λ n. cond (serves w n) n.regions []) v.nodes
      ∙ ap (λ k. of_nodes k 0 (λ i. cond (serves w (node_at i v.nodes)) (node_at i v.nodes).regions [])) is.many
      ∙ alike 32 0 (λ i. cond (serves w (node_at i v.nodes)) (node_at i v.nodes).regions []) (λ i. cond (is_read w (r i)) (r i).regions [])
      (λ i l. let h = shows.nodes i (omega (arith, l)) in ap₂ (λ t rs. cond t rs []) (serves-read w (r i) (node_at i v.nodes) h) h.regions_are)

-- ---- all lanes

all-listed : (reads : List LaneRead) (vs : List View) → AreShown reads vs → AreListed reads (map listed_in vs)
all-listed [] [] h = tt
all-listed [] (v ∷ vs) h = absurd h
all-listed (r ∷ rs) [] h = absurd h
all-listed (r ∷ rs) (v ∷ vs) h = (lane-listed 0 r v (h.0).0 (h.0).1, all-listed rs vs h.1)

all-matched : (q : Query) (w : ℕ) (reads : List LaneRead) (vs : List View) → AreShown reads vs → all_matched (said_of q) w vs ≡ all_found q w reads (map listed_in vs)
all-matched q w [] [] h = refl
all-matched q w [] (v ∷ vs) h = absurd h
all-matched q w (r ∷ rs) [] h = absurd h
all-matched q w (r ∷ rs) (v ∷ vs) h = ap₂ (λ xs ys. xs ++ ys) (lane-matched w r v (h.0).0 (h.0).1 q) (all-matched q w rs vs h.1)

all-measured : (w : ℕ) (reads : List LaneRead) (vs : List View) → AreShown reads vs → all_covered w vs ≡ measure_in w reads
all-measured w [] [] h = refl
all-measured w [] (v ∷ vs) h = absurd h
all-measured w (r ∷ rs) [] h = absurd h
all-measured w (r ∷ rs) (v ∷ vs) h = ap₂ (λ x y. x + y) (ap measure_of (lane-regions w r v (h.0).0 (h.0).1)) (all-measured w rs vs h.1)

pub answer-read : (q : Query) (w : ℕ) (reads : List LaneRead) (vs : List View) → AreShown reads vs → IsAnswer q w reads (search_answer (said_of q) w vs)
answer-read q w reads vs h = record {
  docs = map listed_in vs;
  listed = all-listed reads vs h;
  version = refl;
  count = ap length (all-matched q w reads vs h);
  groups = ap (groups_of q.group) (all-matched q w reads vs h);
  covered = ap capped (all-measured w reads vs h);
  full = refl;
}
